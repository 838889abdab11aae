use Rattle.lst_walk.specs.Taking.{AreUntil}
use Rattle.lst_walk.proofs.pages.newest.Given as goal

abbrev pub invariant-loop-column : goal.invariant-loop-column
invariant-loop-column l = AreUntil l.column l.last l.entries
