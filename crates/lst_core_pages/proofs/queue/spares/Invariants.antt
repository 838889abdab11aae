use Rattle.std.proofs.Common.{◌≡◌}
use Rattle.lst_pages.specs.State as state
use Rattle.lst_core_pages.proofs.queue.spares.Given as goal

abbrev pub invariant-loop-k : goal.invariant-loop-k
invariant-loop-k l = l.retired.items ≡ state.spares l.first l.k
