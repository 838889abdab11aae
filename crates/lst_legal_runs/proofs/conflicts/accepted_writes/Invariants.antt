use Rattle.std.proofs.Common.{take}
use Rattle.lst_legal_runs.specs.Places.{run_at}
use Rattle.lst_legal_runs.specs.Conflicts.{AreAccepted}
use Rattle.lst_legal_runs.proofs.conflicts.accepted_writes.Given as goal

abbrev pub invariant-loop-place : goal.invariant-loop-place
invariant-loop-place l = AreAccepted l.marks (run_at (take l.place-index l.places))
