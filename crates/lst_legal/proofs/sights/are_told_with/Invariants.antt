use Rattle.std.proofs.Common.{length, take}
use Rattle.lst_legal_runs.specs.Places.{seen_at, run_at}
use Rattle.lst_legal_runs.proofs.Splits.{SoFar}
use Rattle.lst_legal.specs.Sights.{from_begin, TellsSeen}
use Rattle.lst_legal.proofs.Sighting.{Watched}
use Rattle.lst_legal.proofs.sights.are_told_with.Given as goal

abbrev pub invariant-loop-place : goal.invariant-loop-place
invariant-loop-place l = SoFar seen_at (TellsSeen l.limits l.snapshots) l.places l.place-index × Watched (length l.fn.sights) l.snapshots (λ session. from_begin) l.sights (run_at (take l.place-index l.places))
