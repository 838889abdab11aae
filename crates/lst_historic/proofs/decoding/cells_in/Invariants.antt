use Rattle.std.proofs.Common.{drop}
use Rattle.lst_historic.proofs.Decoded.{CellsOn}
use Rattle.lst_historic.proofs.decoding.cells_in.Given as goal

abbrev pub invariant-loop-changed : goal.invariant-loop-changed
invariant-loop-changed l = CellsOn l.fn.cells.items l.cells.items l.mask l.nulls l.changed l.emptied l.column (drop l.place l.bytes) (drop l.at l.bytes)

abbrev pub decreases-loop-changed : goal.decreases-loop-changed
decreases-loop-changed l = l.changed
