use Rattle.std.proofs.Common.{◌-◌}
use Rattle.lst_index.specs.Visits.{Places}
use Rattle.lst_index.proofs.placing.place.Given as goal

abbrev pub invariant-loop-offset : goal.invariant-loop-offset
invariant-loop-offset l = Places l.store l.fn.seat.view l.seat l.s l.key l.offset

abbrev pub decreases-loop-offset : goal.decreases-loop-offset
decreases-loop-offset l = l.all - l.offset
