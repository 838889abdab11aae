use Rattle.std.proofs.Common.{◌≡◌, length, take}
use Rattle.lst_model.specs.Cells.{cells_of, patched}
use Rattle.lst_model.proofs.rows.Patch.fill.Given as goal

abbrev pub invariant-loop-column : goal.invariant-loop-column
invariant-loop-column l = (l.self ≡ patched l.mask 0 (cells_of l.nulls 0 (take l.column l.numbers))) × (length l.self ≡ l.column)
