use Rattle.lst_walk.specs.Taking.{TakesAll}
use Rattle.lst_walk.proofs.pages.put_entries.Given as goal

abbrev pub invariant-loop-column : goal.invariant-loop-column
invariant-loop-column l = TakesAll l.store l.fn.seat.view l.seat l.s l.fn.rec.number l.column l.entries
