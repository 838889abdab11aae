use Rattle.lst_walk.specs.Whole.{PagedWalk}
use Rattle.lst_walk.proofs.whole.paged.Given as goal

abbrev pub invariant-loop-column : goal.invariant-loop-column
invariant-loop-column l = PagedWalk l.store l.fn.seat l.seat l.s l.fn.rec.number l.number l.column l.row
