use Rattle.lst_walk.specs.Filling.{FillWalk}
use Rattle.lst_walk.proofs.rows.fill.Given as goal

abbrev pub invariant-loop-column : goal.invariant-loop-column
invariant-loop-column l = FillWalk l.store l.fn.seat l.seat l.s l.fn.rec.number l.number l.column l.entries l.fn.patch l.patch l.is_used
