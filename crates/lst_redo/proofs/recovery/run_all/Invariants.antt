use Rattle.std.proofs.Common.{◌≡◌, take}
use Rattle.lst_redo.specs.Recoveries.{HasRunAgain}
use Rattle.lst_redo.proofs.recovery.run_all.Given as goal

abbrev pub invariant-loop-commit : goal.invariant-loop-commit
invariant-loop-commit l = HasRunAgain l.store l.store.layout.limits (take l.commit-index l.commits) l.crew × (l.time ≡ l.commit-index)
