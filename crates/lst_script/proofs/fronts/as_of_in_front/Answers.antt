use Rattle.std.proofs.Common.{codes, refl}
use Rattle.lst_model.specs.declared.lines.Call.TheVariants.{AsOf}
use Rattle.lst_script.proofs.Beginnings.{behind_name}
use Rattle.lst_script.proofs.fronts.as_of_in_front.Goals as goal

pub returns : goal.returns
returns c = λ columns. behind_name columns c.args.text.now (codes "asof") c.in_ok-time.ensures.0 c.in_ok-time.rest.now (AsOf c.in_ok-time.time) refl c.in_ok-time.ensures.1 c.in_ok-time.ensures.2
