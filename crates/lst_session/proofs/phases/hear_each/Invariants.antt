use Rattle.std.proofs.Common.{◌≤◌, ◌-◌, length}
use Rattle.lst_session.specs.Parting.{HearMore, HasHeard}
use Rattle.lst_session.proofs.phases.hear_each.Given as goal

abbrev pub invariant-loop-teller : goal.invariant-loop-teller
invariant-loop-teller l = record {
  low : l.teller ≤ length l.fn.sessions;
  more : HearMore l.store l.fn.sessions l.sessions;
  heard : HasHeard l.fn.sessions l.sessions l.hearer l.teller;
}

abbrev pub decreases-loop-teller : goal.decreases-loop-teller
decreases-loop-teller l = length l.sessions - l.teller
