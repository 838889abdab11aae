use Rattle.lst_test_steps.specs.Driving.{IsOpened}
use Rattle.lst_test_steps.proofs.tests.order_agrees.Given as goal

abbrev pub invariant-loop-left : goal.invariant-loop-left
invariant-loop-left l = IsOpened l.store l.seat l.pair

abbrev pub decreases-loop-left : goal.decreases-loop-left
decreases-loop-left l = l.left
