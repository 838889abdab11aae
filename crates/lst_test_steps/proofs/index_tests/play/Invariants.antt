use Rattle.lst_test_steps.specs.Idle.{IsPair}
use Rattle.lst_test_steps.proofs.index_tests.play.Given as goal

abbrev pub invariant-loop-at : goal.invariant-loop-at
invariant-loop-at g l = IsPair l.store l.seat
