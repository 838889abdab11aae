use Rattle.lst_work_laws.proofs.Fresh.{script_is_told}
use Rattle.lst_work_laws.proofs.laws.script_is_told.Goals as goal

pub returns : goal.returns
returns c = script_is_told
