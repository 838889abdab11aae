use Rattle.std.proofs.Common.{◌≡◌, None, replicate}
use Rattle.lst_legal.proofs.sights.no_sights.Given as goal

abbrev pub invariant-loop : goal.invariant-loop
invariant-loop l = l.sights.items ≡ replicate l.counter None
