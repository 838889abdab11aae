use Rattle.lst_csv.proofs.Listed.{ListsCommits}
use Rattle.lst_csv.proofs.folding.rising_rows.Given as goal

abbrev pub invariant-loop-commit : goal.invariant-loop-commit
invariant-loop-commit l = ListsCommits l.commits l.commit-index l.rows l.floor
