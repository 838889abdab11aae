use Rattle.std.proofs.Common.{◌≤◌, ◌∷◌, length, sym, arith}
use Rattle.std.proofs.lemmas.List.{length-map}
use Rattle.lst_script.specs.Texts.{texts}
use Rattle.lst_script.specs.Columns.{named}
use Rattle.lst_script.specs.Table.{insert}
use Rattle.lst_script.proofs.Exits.{arguments_fault}
use Rattle.lst_script.proofs.Pairing.{insert_faulty}
use Rattle.lst_script.proofs.lines.read_named_insert.Goals as goal

pub returns-in_err-changes : goal.returns-in_err-changes
returns-in_err-changes c =
    let names = c.args.names.now in
    let words = texts c.args.cells.now in
    let few : length words ≤ length names = omega (arith, length-map c.args.cells.now (λ slice. slice.now), c.if-cells-names.false) in
    λ limits. arguments_fault limits (named names) insert (c.args.key.now ∷ words) c.in_err-changes.field-0.0 c.from_residual.result c.from_residual.ensures.1 (insert_faulty limits names c.args.key.now c.in-Some.key words c.in_err-changes.field-0.0 few (sym c.in-Some.ensures) c.in_err-changes.ensures)
