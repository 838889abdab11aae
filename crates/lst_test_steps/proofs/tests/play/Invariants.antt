use Rattle.lst_test_steps.specs.Driving.{IsOpened}
use Rattle.lst_test_steps.proofs.tests.play.Given as goal

abbrev pub invariant-loop-at : goal.invariant-loop-at
invariant-loop-at g l = IsOpened l.store l.seat l.pair
