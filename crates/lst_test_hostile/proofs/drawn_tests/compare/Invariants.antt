use Rattle.std.proofs.Common.{◌≡◌}
use Rattle.lst_plain.specs.Plains.{limits_of}
use Rattle.lst_machine.specs.Machines.{limits_of as machine_limits}
use Rattle.lst_session.specs.Crews.{IsCrewOf}
use Rattle.lst_test_hostile.proofs.drawn_tests.compare.Given as goal

abbrev pub invariant-loop : goal.invariant-loop
invariant-loop g l = record {
  crew : IsCrewOf l.store l.crew;
  sessions : (l.crew.seat.view.limits.sessions ≡ 3) × (l.crew.seat.view.limits.ranges ≡ l.limits.ranges) × (l.crew.seat.view.limits.columns ≡ 2);
  plain : ((limits_of l.plain).sessions ≡ 3) × ((limits_of l.plain).ranges ≡ l.limits.ranges) × ((limits_of l.plain).columns ≡ 2);
  machine : ((machine_limits l.machine).sessions ≡ 3) × ((machine_limits l.machine).ranges ≡ l.limits.ranges) × ((machine_limits l.machine).columns ≡ 2);
}
