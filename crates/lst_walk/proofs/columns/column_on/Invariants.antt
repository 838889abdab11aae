use Rattle.lst_walk.specs.Chains.{CellOnWalk}
use Rattle.lst_walk.proofs.columns.column_on.Given as goal

abbrev pub invariant-loop-number : goal.invariant-loop-number
invariant-loop-number l = CellOnWalk l.store l.fn.seat l.seat l.s l.fn.rec.number l.c l.fn.number l.number

abbrev pub decreases-loop-number : goal.decreases-loop-number
decreases-loop-number l = l.number
