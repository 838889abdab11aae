use Rattle.std.proofs.Common.{take}
use Rattle.lst_legal_runs.specs.Places.{seen_at, run_at}
use Rattle.lst_legal_runs.specs.Merges.{AreMerges, TellsMerge}
use Rattle.lst_legal_runs.proofs.Splits.{SoFar}
use Rattle.lst_legal_runs.proofs.merges.are_merges_consistent.Given as goal

abbrev pub invariant-loop-place : goal.invariant-loop-place
invariant-loop-place l = SoFar seen_at (TellsMerge l.limits (run_at l.places)) l.places l.place-index × AreMerges l.merges (run_at (take l.place-index l.places))
