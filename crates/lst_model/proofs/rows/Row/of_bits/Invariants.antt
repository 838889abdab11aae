use Rattle.std.proofs.Common.{◌≡◌, length, take}
use Rattle.lst_model.specs.Cells.{cells_of}
use Rattle.lst_model.proofs.rows.Row.of_bits.Given as goal

abbrev pub invariant-loop-column : goal.invariant-loop-column
invariant-loop-column l = (l.row ≡ cells_of l.nulls 0 (take l.column l.numbers)) × (length l.row ≡ l.column)
