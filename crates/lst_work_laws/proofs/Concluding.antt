-- The law of a whole script: from the laws of what its replies tell.
use Rattle.lst_work_laws.specs.Legal.{WorkedScriptIsLegal}
use Rattle.lst_work_laws.proofs.Ended.{tails_are_written, script_is_explained}
use Rattle.lst_work_laws.proofs.Fresh.{script_is_told}
use Rattle.lst_work_laws.proofs.Legality.{worked_is_legal}

pub worked_script_is_legal : WorkedScriptIsLegal
worked_script_is_legal = worked_is_legal script_is_told script_is_explained tails_are_written
