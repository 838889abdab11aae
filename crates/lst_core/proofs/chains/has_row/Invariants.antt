use Rattle.lst_layout.specs.Words.{shown}
use Rattle.lst_core.specs.Walks.{Rows}
use Rattle.lst_core.proofs.chains.has_row.Given as goal

abbrev pub invariant-loop-tail : goal.invariant-loop-tail
invariant-loop-tail l = Rows l.fn.layout.limits (shown l.fn.layout.limits l.words) l.rec l.tail

abbrev pub decreases-loop-tail : goal.decreases-loop-tail
decreases-loop-tail l = l.tail
