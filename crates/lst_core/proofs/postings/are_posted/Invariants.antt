use Rattle.std.proofs.Common.{◌-◌}
use Rattle.lst_layout.specs.Words.{shown}
use Rattle.lst_core.specs.Seeks.{AreSettled}
use Rattle.lst_core.proofs.postings.are_posted.Given as goal

abbrev pub invariant-loop-column : goal.invariant-loop-column
invariant-loop-column l = AreSettled l.fn.layout.limits (shown l.fn.layout.limits l.words) l.rec l.tail l.column

abbrev pub decreases-loop-column : goal.decreases-loop-column
decreases-loop-column l = l.columns - l.column
