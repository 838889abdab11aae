use Rattle.lst_walk.specs.Walks.{PageWalk}
use Rattle.lst_walk.proofs.columns.column.Given as goal

abbrev pub invariant-loop-number : goal.invariant-loop-number
invariant-loop-number l = PageWalk l.store l.fn.seat.view l.seat l.s l.fn.rec.number l.c l.number l.entry

abbrev pub decreases-loop-number : goal.decreases-loop-number
decreases-loop-number l = l.number
