use Rattle.lst_model.specs.declared.lines.Call.TheVariants.{Update}
use Rattle.lst_script.proofs.fronts.push_update.Goals as goal

pub returns : goal.returns
returns c = (Update c.in-Some.key c.update_in_front.new.patch, c.in-Some.ensures, c.in_ok-push_update.ensures.ok)
