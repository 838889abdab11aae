use Rattle.std.proofs.Common.{◌≡◌, ◌<◌, ℕ, ◌+◌}
use Rattle.lst_pack.specs.Forms.{run_end}
use Rattle.lst_pack.proofs.checks.are_runs.Given as goal

abbrev pub invariant-loop-run : goal.invariant-loop-run
invariant-loop-run l = record {
  begins : 0 < l.run → 0 < run_end l.words 0;
  rising : (run : ℕ) → run + 1 < l.run → run_end l.words run < run_end l.words (run + 1);
  none : l.run ≡ 0 → l.end ≡ 0;
  some : (run : ℕ) → l.run ≡ run + 1 → l.end ≡ run_end l.words run;
}
