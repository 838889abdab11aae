use Rattle.lst_test_steps.specs.Idle.{IsPair}
use Rattle.lst_test_steps.proofs.candidate_tests.list.Given as goal

abbrev pub invariant-loop-column : goal.invariant-loop-column
invariant-loop-column g l = IsPair l.store l.seat
