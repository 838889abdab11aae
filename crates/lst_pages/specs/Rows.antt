-- What an entry says of a row.
use Rattle.std.specs.Prelude.{◌≡◌, ℕ, List, Option, Some, None, length, slice_get}
use Rattle.std.specs.Option.{option_flatten}
use Rattle.lst_bits.specs.Encodings.{kind_code}
use Rattle.lst_model.specs.declared.acts.Act.{Act}
use Rattle.lst_model.specs.Cells.{Cell}
use Rattle.lst_core_state.specs.Cells.{act_with}
use Rattle.lst_pages.specs.declared.tails.PageTail.{PageTail}

-- what a tail does to its record's row
abbrev pub act_of : PageTail → Act
act_of t = act_with (kind_code t.kind) t.mask t.values

-- the cell of column c, null where the row has no such column
abbrev pub cell_at : ℕ → List Cell → Cell
cell_at c row = option_flatten (slice_get row c)

-- the same, where there is a row
abbrev pub column_of : ℕ → Option (List Cell) → Option Cell
column_of c None = None
column_of c (Some row) = Some (cell_at c row)

-- the row has n columns, if it is there
abbrev pub HasColumns : ℕ → Option (List Cell) → Type 0
HasColumns n None = Unit {0}
HasColumns n (Some row) = length row ≡ n
