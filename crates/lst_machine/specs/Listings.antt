-- The rows of keys, in a list.
use Rattle.std.specs.Prelude.{ℕ, List, [], ◌∷◌, Option, Some, None}
use Rattle.lst_model.specs.Cells.{Cell}

-- a key with its row, where it has one, before others
abbrev pub listed_row : ℕ → Option (List Cell) → List (ℕ × List Cell) → List (ℕ × List Cell)
listed_row key None rest = rest
listed_row key (Some row) rest = (key, row) ∷ rest

-- the keys that have a row, with their rows
abbrev pub listed : (ℕ → Option (List Cell)) → List ℕ → List (ℕ × List Cell)
listed row [] = []
listed row (key ∷ keys) = listed_row key (row key) (listed row keys)
