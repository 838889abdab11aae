use Rattle.lst_index.specs.Pairs.{IsPair, IsIdle}
use Rattle.lst_test_steps.proofs.place_tests.play.Given as goal

abbrev pub invariant-loop-at : goal.invariant-loop-at
invariant-loop-at g l = IsPair l.store l.seat × IsIdle l.seat 0
