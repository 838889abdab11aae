use Rattle.std.proofs.Common.{◌≡◌, ◌++◌, drop}
use Rattle.lst_log.specs.Format.{journal}
use Rattle.lst_log.proofs.write.push_records.Given as goal

abbrev pub invariant-loop-commit : goal.invariant-loop-commit
invariant-loop-commit l = l.text.items ++ journal l.columns (drop l.commit-index l.commits) ≡ l.fn.text.items ++ journal l.columns l.commits
