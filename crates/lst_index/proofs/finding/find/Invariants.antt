use Rattle.std.proofs.Common.{◌<◌, ◌-◌}
use Rattle.lst_core_state.specs.Index.{size}
use Rattle.lst_index.specs.Visits.{Searches}
use Rattle.lst_index.proofs.finding.find.Given as goal

abbrev pub invariant-loop-offset : goal.invariant-loop-offset
invariant-loop-offset l = Searches l.store l.fn.seat.view l.seat l.s l.key l.offset × (l.offset < size l.store.layout.limits)

abbrev pub decreases-loop-offset : goal.decreases-loop-offset
decreases-loop-offset l = size l.store.layout.limits - l.offset
