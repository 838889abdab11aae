use Rattle.lst_walk.specs.Whole.{RowOnWalk}
use Rattle.lst_walk.proofs.rows.put_walked.Given as goal

abbrev pub invariant-loop-number : goal.invariant-loop-number
invariant-loop-number l = RowOnWalk l.store l.fn.seat l.seat l.s l.fn.rec.number l.fn.number l.number l.entries l.patch l.set

abbrev pub decreases-loop-number : goal.decreases-loop-number
decreases-loop-number l = l.number
