use Rattle.std.proofs.Common.{◌≤◌, ◌∷◌, length, sym, arith}
use Rattle.std.proofs.lemmas.List.{length-map}
use Rattle.lst_script.specs.Texts.{texts}
use Rattle.lst_script.specs.Columns.{named}
use Rattle.lst_script.specs.Table.{update}
use Rattle.lst_script.proofs.Exits.{arguments_fault}
use Rattle.lst_script.proofs.Pairing.{update_faulty}
use Rattle.lst_script.proofs.lines.read_named_update.Goals as goal

pub returns-in_err-set : goal.returns-in_err-set
returns-in_err-set c =
    let names = c.args.names.now in
    let words = texts c.args.changes.now in
    let few : length words ≤ length names = omega (arith, length-map c.args.changes.now (λ slice. slice.now), c.if-changes-names.false) in
    λ limits. arguments_fault limits (named names) update (c.args.key.now ∷ words) c.in_err-set.field-0.0 c.from_residual.result c.from_residual.ensures.1 (update_faulty limits names c.args.key.now c.in-Some.key words c.in_err-set.field-0.0 few (sym c.in-Some.ensures) c.in_err-set.ensures)
