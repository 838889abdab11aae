use Rattle.std.proofs.Common.{◌≡◌, ◌++◌, length}
use Rattle.lst_work.specs.Hiring.{sessions_of, reads_of}
use Rattle.lst_work.proofs.hiring.sessions_back.Given as goal

abbrev pub invariant-loop-rest : goal.invariant-loop-rest
invariant-loop-rest l = (l.sessions.items ++ sessions_of l.rest.items ≡ sessions_of l.fn.workers.items) × (l.kept.items ++ reads_of l.rest.items ≡ reads_of l.fn.workers.items)

abbrev pub decreases-loop-rest : goal.decreases-loop-rest
decreases-loop-rest l = length l.rest.items
