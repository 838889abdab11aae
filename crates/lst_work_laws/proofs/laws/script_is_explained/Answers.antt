use Rattle.lst_work_laws.proofs.Ended.{script_is_explained}
use Rattle.lst_work_laws.proofs.laws.script_is_explained.Goals as goal

pub returns : goal.returns
returns c = script_is_explained
