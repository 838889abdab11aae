use Rattle.lst_plain.proofs.Settling.{IsLeft}
use Rattle.lst_plain.proofs.calls.settle_all.Given as goal

abbrev pub invariant-loop-place : goal.invariant-loop-place
invariant-loop-place l = IsLeft l.time l.session l.fn.records l.records l.places l.place-index
