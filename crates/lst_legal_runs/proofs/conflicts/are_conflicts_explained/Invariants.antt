use Rattle.lst_legal_runs.specs.Places.{seen_at, run_at}
use Rattle.lst_legal_runs.specs.Conflicts.{TellsConflict}
use Rattle.lst_legal_runs.proofs.Splits.{SoFar}
use Rattle.lst_legal_runs.proofs.conflicts.are_conflicts_explained.Given as goal

abbrev pub invariant-loop-place : goal.invariant-loop-place
invariant-loop-place l = SoFar seen_at (TellsConflict l.history (run_at l.places)) l.places l.place-index
