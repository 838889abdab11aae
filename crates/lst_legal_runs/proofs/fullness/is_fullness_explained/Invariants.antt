use Rattle.std.proofs.Common.{take}
use Rattle.lst_legal_runs.specs.Places.{seen_at, run_at}
use Rattle.lst_legal_runs.specs.Fullness.{AreWritten, TellsFullness}
use Rattle.lst_legal_runs.proofs.Splits.{SoFar}
use Rattle.lst_legal_runs.proofs.fullness.is_fullness_explained.Given as goal

abbrev pub invariant-loop-place : goal.invariant-loop-place
invariant-loop-place l = SoFar seen_at (TellsFullness l.limits l.history (run_at l.places)) l.places l.place-index × AreWritten l.written (run_at (take l.place-index l.places))
