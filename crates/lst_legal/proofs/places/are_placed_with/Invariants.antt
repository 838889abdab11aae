use Rattle.std.proofs.Common.{length, take}
use Rattle.lst_legal_runs.specs.Places.{seen_at, run_at}
use Rattle.lst_legal_runs.proofs.Splits.{SoFar}
use Rattle.lst_legal.specs.Serials.{from_place, TellsPlace}
use Rattle.lst_legal.proofs.Sighting.{Watched}
use Rattle.lst_legal.proofs.places.are_placed_with.Given as goal

abbrev pub invariant-loop-place : goal.invariant-loop-place
invariant-loop-place l = SoFar seen_at (TellsPlace l.snapshots (from_place l.firsts)) l.places l.place-index × Watched (length l.fn.sights) l.snapshots (from_place l.firsts) l.sights (run_at (take l.place-index l.places))
