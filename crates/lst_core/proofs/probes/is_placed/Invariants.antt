use Rattle.std.proofs.Common.{◌-◌}
use Rattle.lst_layout.specs.Words.{shown}
use Rattle.lst_core.specs.Seeks.{Seeks}
use Rattle.lst_core.proofs.probes.is_placed.Given as goal

abbrev pub invariant-loop-offset : goal.invariant-loop-offset
invariant-loop-offset l = Seeks l.fn.layout.limits (shown l.fn.layout.limits l.words) l.key l.rec l.offset

abbrev pub decreases-loop-offset : goal.decreases-loop-offset
decreases-loop-offset l = l.size - l.offset
