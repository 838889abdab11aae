use Rattle.std.proofs.Common.{◌∷◌, refl}
use Rattle.lst_script.proofs.Beginnings.{plain_call}
use Rattle.lst_script.proofs.fronts.plain_in_front.Goals as goal

pub returns : goal.returns
returns c = λ columns. plain_call columns c.args.text.now c.args.name.now (10 ∷ c.in_ok-rest.rest.now) c.in_ok-rest.rest.now c.args.call c.requires.named (c.requires.plain columns) c.in_ok-rest.ensures refl
