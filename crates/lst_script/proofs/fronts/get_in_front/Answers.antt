use Rattle.std.proofs.Common.{codes, refl}
use Rattle.lst_model.specs.declared.lines.Call.TheVariants.{Get}
use Rattle.lst_script.proofs.Beginnings.{behind_name}
use Rattle.lst_script.proofs.fronts.get_in_front.Goals as goal

pub returns : goal.returns
returns c = λ columns. behind_name columns c.args.text.now (codes "get") c.in_ok-key.ensures.0 c.in_ok-key.rest.now (Get c.in_ok-key.key) refl c.in_ok-key.ensures.1 c.in_ok-key.ensures.2
