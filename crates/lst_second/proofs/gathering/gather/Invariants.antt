use Rattle.std.proofs.Common.{◌-◌}
use Rattle.lst_second.specs.Candidates.{Probes}
use Rattle.lst_second.specs.Gathers.{Gathers}
use Rattle.lst_second.proofs.gathering.gather.Given as goal

abbrev pub invariant-loop-offset : goal.invariant-loop-offset
invariant-loop-offset l = Probes l.fn.seat.view l.seat.view l.s × Gathers l.store l.seat l.s l.sought l.records.items l.offset

abbrev pub decreases-loop-offset : goal.decreases-loop-offset
decreases-loop-offset l = l.all - l.offset
