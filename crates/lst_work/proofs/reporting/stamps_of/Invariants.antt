use Rattle.std.proofs.Common.{◌≡◌, ◌++◌, map, drop}
use Rattle.lst_replies.specs.Legal.{stamp_of}
use Rattle.lst_work.proofs.reporting.stamps_of.Given as goal

abbrev pub invariant-loop-commit : goal.invariant-loop-commit
invariant-loop-commit l = l.stamps ++ map stamp_of (drop l.commit-index l.commit-items) ≡ map stamp_of l.history
