use Rattle.std.proofs.Common.{◌≡◌, None, replicate}
use Rattle.lst_legal_runs.proofs.gathering.no_commits.Given as goal

abbrev pub invariant-loop : goal.invariant-loop
invariant-loop l = l.slots.items ≡ replicate l.counter None
