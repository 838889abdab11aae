use Rattle.std.proofs.Common.{◌≡◌}
use Rattle.lst_history.proofs.InOrder.{ordered_until}
use Rattle.lst_history.proofs.sorting.sort_all.Given as goal

abbrev pub invariant-loop-commit : goal.invariant-loop-commit
invariant-loop-commit l = l.commits ≡ ordered_until l.commit-index l.fn.commits
