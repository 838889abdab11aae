use Rattle.std.proofs.Common.{◌-◌}
use Rattle.lst_index.specs.Pairs.{IsPair, IsIdle}
use Rattle.lst_test_steps.proofs.place_tests.puts.Given as goal

abbrev pub invariant-loop-done : goal.invariant-loop-done
invariant-loop-done l = IsPair l.store l.seat × IsIdle l.seat 0

abbrev pub decreases-loop-done : goal.decreases-loop-done
decreases-loop-done l = l.count - l.done
