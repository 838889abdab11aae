use Rattle.std.proofs.Common.{◌≡◌, ◌≤◌, ◌+◌, length, drop}
use Rattle.lst_log.specs.Format.{journal}
use Rattle.lst_log.proofs.write.size_within.Given as goal

abbrev pub invariant-loop-commit : goal.invariant-loop-commit
invariant-loop-commit l = record {
  so_far : l.left + 1 + length (journal l.columns l.commits) ≡ l.room + length (journal l.columns (drop l.commit-index l.commits));
  within : l.left + 1 ≤ l.room;
}
