use Rattle.std.proofs.Common.{ℕ, ◌<◌, get_or}
use Rattle.lst_model.specs.declared.lines.Line.{Line}
use Rattle.lst_model.specs.Lines.{LineFits}
use Rattle.lst_test_threads.proofs.work_tests.lines_fit.Given as goal

abbrev pub invariant-loop-i : goal.invariant-loop-i
invariant-loop-i l = (k : ℕ) → k < l.i → (d : Line) → LineFits l.limits.sessions l.limits.ranges l.limits.columns (get_or l.lines k d)
