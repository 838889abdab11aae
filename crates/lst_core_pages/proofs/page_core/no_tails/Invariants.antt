use Rattle.std.proofs.Common.{◌≡◌, [], replicate}
use Rattle.lst_core_pages.proofs.page_core.no_tails.Given as goal

abbrev pub invariant-loop : goal.invariant-loop
invariant-loop l = l.tails.items ≡ replicate l.counter []
