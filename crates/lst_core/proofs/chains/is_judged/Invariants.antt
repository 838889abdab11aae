use Rattle.lst_layout.specs.Words.{shown}
use Rattle.lst_core.specs.Walks.{Judges}
use Rattle.lst_core.proofs.chains.is_judged.Given as goal

abbrev pub invariant-loop-tail : goal.invariant-loop-tail
invariant-loop-tail l = Judges l.fn.layout.limits (shown l.fn.layout.limits l.words) l.own l.rec l.tail

abbrev pub decreases-loop-tail : goal.decreases-loop-tail
decreases-loop-tail l = l.tail
