use Rattle.lst_work_laws.proofs.Concluding.{worked_script_is_legal}
use Rattle.lst_work_laws.proofs.laws.worked_script_is_legal.Goals as goal

pub returns : goal.returns
returns c = worked_script_is_legal
