use Rattle.std.proofs.Common.{◌≡◌, take}
use Rattle.lst_legal_runs.specs.Firsts.{AreFirstWrites}
use Rattle.lst_legal_runs.proofs.firsts.first_writes.Given as goal

abbrev pub invariant-loop-commit : goal.invariant-loop-commit
invariant-loop-commit l = (l.time ≡ l.commit-index) × AreFirstWrites l.marks (take l.commit-index l.history)
