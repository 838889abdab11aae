use Rattle.std.proofs.Common.{ℕ, get_or, sym, subst, ◌∙◌, arith, below_more}
use Rattle.std.proofs.lemmas.Option.{get_or_from_slice_get}
use Rattle.lst_model.specs.declared.lines.Line.{Line}
use Rattle.lst_model.specs.Lines.{LineFits}
use Rattle.lst_test_threads.proofs.work_tests.lines_fit.Goals as goal

pub loop-i-preserved : goal.loop-i-preserved
loop-i-preserved c = let l = c.args.limits.now in let lines = c.args.lines.now in let line = c.line.result in
    below_more (λ (k : ℕ). (d : Line) → LineFits l.sessions l.ranges l.columns (get_or lines k d)) c.loop-i.i c.loop-i.invariant
    (λ d. subst (LineFits l.sessions l.ranges l.columns) (sym (get_or_from_slice_get lines c.loop-i.i line d c.line.ensures)) (c.line_fits.ensures c.if-not-line_fits.false))

pub returns : goal.returns
returns c ok k d low = c.loop-i.invariant k (omega arith) d
