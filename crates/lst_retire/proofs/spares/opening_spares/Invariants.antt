use Rattle.lst_retire.proofs.Opening.{FirstSpares}
use Rattle.lst_retire.proofs.spares.opening_spares.Given as goal

abbrev pub invariant-loop-k : goal.invariant-loop-k
invariant-loop-k l = FirstSpares l.first l.limits.spare l.k l.spares.items
