use Rattle.std.proofs.Common.{codes, ◌∷◌, refl}
use Rattle.lst_model.specs.declared.lines.Call.TheVariants.{Update}
use Rattle.lst_script.specs.Heads.{columns_of}
use Rattle.lst_script.proofs.Beginnings.{behind_name, behind_one_space, update_behind}
use Rattle.lst_script.proofs.fronts.update_in_front.Goals as goal

pub returns : goal.returns
returns c =
    let columns = columns_of c.args.heads in
    let arguments = c.in_ok-arguments.arguments.now in
    let first = behind_one_space arguments c.in_ok-key.middle.now c.in_ok-key.key c.in_ok-key.ensures in
    behind_name columns c.args.text.now (codes "update") (32 ∷ arguments) c.in_ok-rest.rest.now (Update c.in_ok-key.key c.patch_in_front.new.patch) refl c.in_ok-arguments.ensures
    (update_behind columns (32 ∷ arguments) c.in_ok-key.middle.now c.in_ok-rest.rest.now c.in_ok-key.key c.patch_in_front.new.patch first c.in_ok-rest.ensures)
