use Rattle.std.proofs.Common.{◌-◌, length}
use Rattle.lst_test_steps.specs.Driving.{IsOpened}
use Rattle.lst_test_steps.proofs.tests.agree.Given as goal

abbrev pub invariant-loop-turn : goal.invariant-loop-turn
invariant-loop-turn l = IsOpened l.store l.seat l.pair

abbrev pub decreases-loop-turn : goal.decreases-loop-turn
decreases-loop-turn l = length l.operations - l.turn
