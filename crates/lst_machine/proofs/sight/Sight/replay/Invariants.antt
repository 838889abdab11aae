use Rattle.std.proofs.Common.{◌≡◌, drop}
use Rattle.lst_model.specs.Histories.{replayed}
use Rattle.lst_machine.proofs.sight.Sight.replay.Given as goal

abbrev pub invariant-loop-commit : goal.invariant-loop-commit
invariant-loop-commit l = replayed l.self.table (drop l.commit-index l.commits) ≡ replayed l.fn.self.table l.commits
