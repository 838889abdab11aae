use Rattle.std.proofs.Common.{◌≡◌, [], replicate}
use Rattle.lst_legal_runs.proofs.gathering.no_writes.Given as goal

abbrev pub invariant-loop : goal.invariant-loop
invariant-loop l = l.pending.items ≡ replicate l.counter []
