use Rattle.std.proofs.Common.{length}
use Rattle.lst_report.proofs.Marking.{IsPassed}
use Rattle.lst_report.proofs.claims.find_mark.Given as goal

abbrev pub decreases-loop-end : goal.decreases-loop-end
decreases-loop-end l = length l.rest

abbrev pub invariant-loop-end : goal.invariant-loop-end
invariant-loop-end l = IsPassed l.bytes l.rest l.lines
