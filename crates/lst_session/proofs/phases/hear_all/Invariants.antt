use Rattle.std.proofs.Common.{◌≤◌, ◌-◌, length}
use Rattle.lst_session.specs.Parting.{HearMore, HaveHeard}
use Rattle.lst_session.proofs.phases.hear_all.Given as goal

abbrev pub invariant-loop-hearer : goal.invariant-loop-hearer
invariant-loop-hearer l = record {
  low : l.hearer ≤ length l.fn.sessions;
  more : HearMore l.store l.fn.sessions l.sessions;
  heard : HaveHeard l.fn.sessions l.sessions l.hearer;
}

abbrev pub decreases-loop-hearer : goal.decreases-loop-hearer
decreases-loop-hearer l = length l.sessions - l.hearer
