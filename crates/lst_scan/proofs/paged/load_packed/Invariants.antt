use Rattle.lst_scan.proofs.Loading.{LoadsPacked}
use Rattle.lst_scan.proofs.paged.load_packed.Given as goal

abbrev pub invariant-loop-place : goal.invariant-loop-place
invariant-loop-place l = LoadsPacked l.store l.fn.seat.view l.seat l.s l.frame l.place l.out
