use Rattle.std.proofs.Common.{◌≡◌, ◌++◌, map, Some}
use Rattle.lst_legal_runs.proofs.gathering.filled.Given as goal

abbrev pub invariant-loop-slot : goal.invariant-loop-slot
invariant-loop-slot l = map (λ commit. Some commit) l.commits.items ++ l.slot-iterator.rest.items ≡ l.fn.slots.items
