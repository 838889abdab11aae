use Rattle.lst_legal_runs.specs.Places.{seen_at}
use Rattle.lst_legal_runs.specs.Rules.{TellsState}
use Rattle.lst_legal_runs.proofs.Splits.{SoFar}
use Rattle.lst_legal_runs.proofs.refusals.are_refusals_exact.Given as goal

abbrev pub invariant-loop-place : goal.invariant-loop-place
invariant-loop-place l = SoFar seen_at (TellsState l.level l.limits) l.places l.place-index
