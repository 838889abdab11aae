use Rattle.std.proofs.Common.{codes, ◌∷◌, refl}
use Rattle.lst_model.specs.declared.lines.Call.TheVariants.{Find}
use Rattle.lst_script.specs.Heads.{columns_of}
use Rattle.lst_script.proofs.Beginnings.{behind_name, find_behind}
use Rattle.lst_script.proofs.fronts.find_in_front.Goals as goal

pub returns : goal.returns
returns c =
    let columns = columns_of c.args.heads in
    behind_name columns c.args.text.now (codes "find") (32 ∷ c.in_ok-arguments.arguments.now) c.in_ok-rest.rest.now (Find c.in_ok-column.column c.in_ok-value.value) refl c.in_ok-arguments.ensures
    (find_behind columns _ c.in_ok-arguments.arguments.now c.in_ok-column.word.now c.in_ok-value.after.now c.in_ok-rest.rest.now c.in_ok-column.column c.in_ok-value.value refl c.in_ok-column.ensures c.in_ok-value.ensures c.in_ok-rest.ensures)
