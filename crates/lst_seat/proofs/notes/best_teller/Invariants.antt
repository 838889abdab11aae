use Rattle.lst_seat.proofs.Telling.{BestSo}
use Rattle.lst_seat.proofs.notes.best_teller.Given as goal

abbrev pub invariant-loop-s : goal.invariant-loop-s
invariant-loop-s l = BestSo l.seat.view l.s l.teller

abbrev pub decreases-loop-s : goal.decreases-loop-s
decreases-loop-s l = l.s
