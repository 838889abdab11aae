use Rattle.lst_work.proofs.Assembling.{generated_script_is_loaded}
use Rattle.lst_work.proofs.laws.generated_script_is_loaded.Goals as goal

pub returns : goal.returns
returns c = generated_script_is_loaded
