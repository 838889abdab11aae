use Rattle.std.proofs.Common.{◌≡◌, take}
use Rattle.lst_legal_runs.specs.Firsts.{AreFirstNumbers}
use Rattle.lst_legal_runs.proofs.firsts.first_numbers.Given as goal

abbrev pub invariant-loop-commit : goal.invariant-loop-commit
invariant-loop-commit l = (l.time ≡ l.commit-index) × AreFirstNumbers l.marks (take l.commit-index l.history)
