use Rattle.std.proofs.Common.{◌-◌, ◌≤◌}
use Rattle.lst_test_steps.specs.Idle.{IsPair}
use Rattle.lst_test_steps.proofs.post_tests.postings.Given as goal

abbrev pub invariant-loop-position : goal.invariant-loop-position
invariant-loop-position l = IsPair l.store l.seat × (l.taken ≤ l.position)

abbrev pub decreases-loop-position : goal.decreases-loop-position
decreases-loop-position l = 32 - l.position
