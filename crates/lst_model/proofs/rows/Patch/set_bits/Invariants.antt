use Rattle.std.proofs.Common.{◌≡◌, ◌≤◌, length, drop}
use Rattle.lst_model.specs.Cells.{bits_set}
use Rattle.lst_model.proofs.rows.Patch.set_bits.Given as goal

abbrev pub invariant-loop-column : goal.invariant-loop-column
invariant-loop-column l = (l.column ≤ length l.changes) × (l.mask ≡ bits_set (drop l.column l.changes))

abbrev pub decreases-loop-column : goal.decreases-loop-column
decreases-loop-column l = l.column
