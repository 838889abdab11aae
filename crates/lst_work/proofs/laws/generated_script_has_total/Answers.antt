use Rattle.lst_work.proofs.Assembling.{generated_script_has_total}
use Rattle.lst_work.proofs.laws.generated_script_has_total.Goals as goal

pub returns : goal.returns
returns c = generated_script_has_total
