use Rattle.std.proofs.Common.{sym, subst, arith}
use Rattle.std.proofs.lemmas.Option.{get_or_from_slice_get}
use Rattle.lst_model.specs.declared.lines.Line.{Line}
use Rattle.lst_model.specs.Lines.{LineFits}
use Rattle.lst_script.proofs.Fitting.{script_fits}
use Rattle.lst_test_journal.proofs.driving.line_of.Goals as goal

pub returns : goal.returns
returns c =
    let limits = c.args.limits.now in
    let at = sym (get_or_from_slice_get c.in-Ok.script 0 c.line.result c.line.result c.line.ensures) in
    subst (λ (line : Line). LineFits limits.sessions limits.ranges limits.columns line) (sym at) (script_fits limits c.as_bytes.result.now c.in-Ok.script c.in-Ok.ensures.ok 0 c.line.result (omega arith))
