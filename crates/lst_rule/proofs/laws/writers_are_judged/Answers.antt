use Rattle.lst_rule.proofs.Writing.{closed_are_passed, judged_may_draw}
use Rattle.lst_rule.proofs.Committed.{committed_wrote, committed_may_be_stamped}
use Rattle.lst_rule.proofs.laws.writers_are_judged.Goals as goal

pub returns-clause-passed : goal.returns-clause-passed
returns-clause-passed c = closed_are_passed

pub returns-clause-draws : goal.returns-clause-draws
returns-clause-draws c = judged_may_draw

pub returns-clause-wrote : goal.returns-clause-wrote
returns-clause-wrote c = committed_wrote

pub returns-clause-stamps : goal.returns-clause-stamps
returns-clause-stamps c = committed_may_be_stamped
