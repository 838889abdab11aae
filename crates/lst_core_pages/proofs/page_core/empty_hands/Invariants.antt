use Rattle.std.proofs.Common.{◌≡◌, None, replicate}
use Rattle.lst_core_pages.proofs.page_core.empty_hands.Given as goal

abbrev pub invariant-loop : goal.invariant-loop
invariant-loop l = l.hands.items ≡ replicate l.counter (replicate l.frames None)
