use Rattle.std.proofs.Common.{true, drop, subst, sym, ap, ◌∙◌, Bool}
use Rattle.std.specs.Prelude.{Some, None, IsSome}
use Rattle.lst_historic.specs.Reading.{cell_behind, number_after}
use Rattle.lst_historic.proofs.Decoded.{number_some, read_number, read_emptied}
use Rattle.lst_historic.proofs.decoding.cell_in.Goals as goal

pub returns-then-emptied : goal.returns-then-emptied
returns-then-emptied c =
    let rest = drop c.args.place c.args.bytes.now in
    read_emptied c.args.old rest (subst (λ (b : Bool). IsSome (cell_behind true b c.args.old rest)) c.if-emptied.true c.requires)
    ∙ ap (λ (b : Bool). cell_behind true b c.args.old rest) (sym c.if-emptied.true)

pub number_in-code-requires : goal.number_in-code-requires
number_in-code-requires c =
    let rest = drop c.args.place c.args.bytes.now in
    number_some c.args.old rest (subst (λ (b : Bool). IsSome (cell_behind true b c.args.old rest)) c.if-emptied.false c.requires)

pub returns : goal.returns
returns c =
    let rest = drop c.args.place c.args.bytes.now in
    let behind = drop c.number_in-code.result.1 c.args.bytes.now in
    ap (λ n. Some (Some n, behind)) (c.number_after.ensures ∙ ap (λ old. number_after old c.number_in-code.result.0) c.unwrap_or.ensures)
    ∙ read_number c.args.old rest c.number_in-code.result.0 behind (subst (λ (b : Bool). IsSome (cell_behind true b c.args.old rest)) c.if-emptied.false c.requires) c.number_in-code.ensures
    ∙ ap (λ (b : Bool). cell_behind true b c.args.old rest) (sym c.if-emptied.false)
