use Rattle.std.proofs.Common.{◌∷◌}
use Rattle.lst_script.proofs.Beginnings.{one_behind_name, behind_one_space}
use Rattle.lst_script.proofs.fronts.number_behind_name.Goals as goal

pub returns : goal.returns
returns c =
    let argument = c.in_ok-argument.argument.now in
    let first = behind_one_space argument c.in_ok-number.after.now c.in_ok-number.number c.in_ok-number.ensures in
    one_behind_name c.args.text.now c.args.name.now c.in_ok-number.after.now c.in_ok-rest.rest.now (32 ∷ argument) c.in_ok-number.number c.in_ok-argument.ensures first c.in_ok-rest.ensures
