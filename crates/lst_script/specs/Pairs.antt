-- Pairs of a column and what it gets, as `qty=5` and `qty=null`.
use Rattle.std.specs.Prelude.{ℕ, List, [], ◌∷◌, Bool, true, not, ◌&&◌, ◌==◌, Option, Some, None, is_some, option_map, unwrap_or, slice_index_or, slice_set, map, replicate, position, if◌then◌else◌, codes, bytes_eq}
use Rattle.std.specs.List.{before_first, after_first}
use Rattle.lst_model.specs.Cells.{Cell}
use Rattle.lst_script.specs.Numbers.{number_of}
use Rattle.lst_script.specs.Columns.{column_named}

-- 61 is =
abbrev pub is_equals : ℕ → Bool
is_equals byte = byte == 61

-- a word is split at its first =
abbrev pub has_equals : List ℕ → Bool
has_equals word = is_some (position is_equals word)

abbrev pub pair_name : List ℕ → List ℕ
pair_name word = before_first is_equals word

abbrev pub pair_value : List ℕ → List ℕ
pair_value word = after_first is_equals word

-- the cell that a value is: a number, or null
abbrev pub cell_of_value : List ℕ → Option Cell
cell_of_value word = if bytes_eq word (codes "null") then Some None else option_map Some (number_of word)

-- a column, and what it gets
abbrev pub Setting : Type 0
Setting = ℕ × Cell

abbrev pub setting_from : Option ℕ → Option Cell → Option Setting
setting_from None cell = None
setting_from (Some column) None = None
setting_from (Some column) (Some cell) = Some (column, cell)

-- what a word NAME=V is
abbrev pub pair_of : List (List ℕ) → List ℕ → Option Setting
pair_of names word = if has_equals word then setting_from (column_named names (pair_name word)) (cell_of_value (pair_value word)) else None

-- ---- settings one after the other, on a patch of what those before them set

abbrev pub is_set : List (Option Cell) → ℕ → Bool
is_set changes column = is_some (slice_index_or changes column None)

abbrev pub set_by : List (Option Cell) → Setting → List (Option Cell)
set_by changes setting = slice_set changes setting.0 (Some setting.1)

-- no column is set that was set before
abbrev pub are_apart : List (Option Cell) → List Setting → Bool
are_apart changes [] = true
are_apart changes (setting ∷ settings) = not (is_set changes setting.0) && are_apart (set_by changes setting) settings

abbrev pub all_set : List (Option Cell) → List Setting → List (Option Cell)
all_set changes [] = changes
all_set changes (setting ∷ settings) = all_set (set_by changes setting) settings

-- a patch of so many columns that keeps each
abbrev pub nothing_set : ℕ → List (Option Cell)
nothing_set count = replicate count None

-- the patch that settings are, and the row, in which a column that gets nothing is null
abbrev pub patch_of : ℕ → List Setting → List (Option Cell)
patch_of count settings = all_set (nothing_set count) settings

abbrev pub filled : List (Option Cell) → List Cell
filled changes = map (λ change. unwrap_or change None) changes

abbrev pub row_of : ℕ → List Setting → List Cell
row_of count settings = filled (patch_of count settings)
