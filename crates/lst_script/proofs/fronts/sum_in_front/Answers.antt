use Rattle.std.proofs.Common.{codes, ◌∷◌, refl}
use Rattle.lst_model.specs.declared.lines.Call.TheVariants.{Sum}
use Rattle.lst_script.specs.Heads.{columns_of}
use Rattle.lst_script.proofs.Beginnings.{behind_name, sum_behind}
use Rattle.lst_script.proofs.fronts.sum_in_front.Goals as goal

pub returns : goal.returns
returns c =
    let columns = columns_of c.args.heads in
    behind_name columns c.args.text.now (codes "sum") (32 ∷ c.in_ok-arguments.arguments.now) c.in_ok-column.rest.now (Sum c.in_ok-column.column) refl c.in_ok-arguments.ensures (sum_behind columns _ c.in_ok-arguments.arguments.now c.in_ok-column.rest.now c.in_ok-column.column refl c.in_ok-column.ensures)
