use Rattle.std.proofs.Common.{length}
use Rattle.lst_script.proofs.Starting.{IsPassing}
use Rattle.lst_script.proofs.parsing.find_start.Given as goal

abbrev pub decreases-loop-line : goal.decreases-loop-line
decreases-loop-line l = length l.rest

abbrev pub invariant-loop-line : goal.invariant-loop-line
invariant-loop-line l = IsPassing l.bytes l.rest l.before
