use Rattle.std.proofs.Common.{◌-◌}
use Rattle.lst_test_steps.proofs.tests.first_disagreement.Given as goal

abbrev pub decreases-loop-order : goal.decreases-loop-order
decreases-loop-order l = 4096 - l.order

abbrev pub decreases-loop-plan : goal.decreases-loop-plan
decreases-loop-plan l = 16 - l.plan
