-- Rows and patches that a walk makes, newest version first.
use Rattle.std.specs.Prelude.{◌≡◌, ◌≢◌, ℕ, List, [], ◌∷◌, cond, Option, Some, None, length, slice_get}
use Rattle.lst_bits.specs.Encodings.{HasColumn}
use Rattle.lst_model.specs.Cells.{Cell, number_at, cells_of}
use Rattle.lst_model.specs.Histories.{row_after}
use Rattle.lst_core_state.specs.Cells.{nulls_of}
use Rattle.lst_core_state.specs.declared.known.Known.{Known}
use Rattle.lst_rule.specs.Copies.{Version}
use Rattle.lst_rule.specs.Seen.{sees, act_by}

-- the cells that the words of a version stand for
abbrev pub cells_by : Version → List Cell
cells_by c = cells_of (nulls_of c.encoding) 0 c.values

-- the newer cell, where there is one, and else the older
abbrev pub newest : Option Cell → Option Cell → Option Cell
newest (Some x) older = Some x
newest None older = older

-- a patch and an older one in one
abbrev pub merged : List (Option Cell) → List (Option Cell) → List (Option Cell)
merged [] older = []
merged (x ∷ newer) [] = x ∷ newer
merged (x ∷ newer) (y ∷ older) = newest x y ∷ merged newer older

-- the patch sets each of its columns that the mask holds
abbrev pub AreSet : ℕ → List (Option Cell) → Type 0
AreSet mask patch = (column : ℕ) → HasColumn mask column → slice_get patch column ≢ Some None

-- the row after a version, where older ones leave this row
abbrev pub seen_after : Known → ℕ → Version → Option (List Cell) → Option (List Cell)
seen_after v s c row = cond (sees v s c.writer) (row_after row (act_by c)) row

-- the number of a column, which is 0 for null
abbrev pub cell_in : ℕ → Option (List Cell) → Option ℕ
cell_in column None = None
cell_in column (Some row) = Some (number_at column row)

-- a row has this many columns
abbrev pub IsWide : ℕ → Option (List Cell) → Type 0
IsWide columns None = Unit {0}
IsWide columns (Some row) = length row ≡ columns
