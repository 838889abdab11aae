use Rattle.lst_command.proofs.Reported.{judged_legal}
use Rattle.lst_command.proofs.laws.work_is_judged_legal.Goals as goal

pub returns : goal.returns
returns c = judged_legal
