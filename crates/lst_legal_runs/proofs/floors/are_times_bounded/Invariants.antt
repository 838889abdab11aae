use Rattle.lst_legal_runs.specs.Places.{seen_at, run_at}
use Rattle.std.proofs.Common.{take}
use Rattle.lst_legal_runs.specs.Floors.{AreFloors, TellsTime}
use Rattle.lst_legal_runs.proofs.Splits.{SoFar}
use Rattle.lst_legal_runs.proofs.floors.are_times_bounded.Given as goal

abbrev pub invariant-loop-place : goal.invariant-loop-place
invariant-loop-place l = SoFar seen_at (TellsTime l.history) l.places l.place-index × AreFloors l.floors (run_at (take l.place-index l.places))
