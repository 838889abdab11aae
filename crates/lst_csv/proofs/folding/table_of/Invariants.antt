use Rattle.std.proofs.Common.{◌≡◌, drop}
use Rattle.lst_model.specs.Tables.{no_rows}
use Rattle.lst_model.specs.Histories.{replayed}
use Rattle.lst_csv.proofs.folding.table_of.Given as goal

abbrev pub invariant-loop-commit : goal.invariant-loop-commit
invariant-loop-commit l = replayed l.table (drop l.commit-index l.commits) ≡ replayed no_rows l.commits
