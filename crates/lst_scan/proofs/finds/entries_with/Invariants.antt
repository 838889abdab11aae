use Rattle.lst_scan.proofs.Finding.{Finds}
use Rattle.lst_scan.proofs.finds.entries_with.Given as goal

abbrev pub invariant-loop-rec : goal.invariant-loop-rec
invariant-loop-rec l = Finds l.store l.fn.seat.view l.seat l.s l.column l.number l.records l.rec-index l.found.entries
