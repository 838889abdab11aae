use Rattle.std.proofs.Common.{◌-◌}
use Rattle.lst_layout.specs.Words.{shown}
use Rattle.lst_core.specs.Seeks.{SeeksTail}
use Rattle.lst_core.proofs.postings.is_posted.Given as goal

abbrev pub invariant-loop-offset : goal.invariant-loop-offset
invariant-loop-offset l = SeeksTail l.fn.layout.limits (shown l.fn.layout.limits l.words) l.column l.rec l.value l.offset

abbrev pub decreases-loop-offset : goal.decreases-loop-offset
decreases-loop-offset l = l.size - l.offset
