use Rattle.std.proofs.Common.{length, take}
use Rattle.lst_legal_runs.specs.Places.{seen_at, run_at}
use Rattle.lst_legal_runs.proofs.Splits.{SoFar}
use Rattle.lst_legal.specs.Serials.{TellsStale}
use Rattle.lst_legal.proofs.Rereading.{Reading}
use Rattle.lst_legal.proofs.stales.are_explained_with.Given as goal

abbrev pub invariant-loop-place : goal.invariant-loop-place
invariant-loop-place l = SoFar seen_at (TellsStale l.snapshots) l.places l.place-index × Reading l.snapshots (length l.fn.reads) l.reads (run_at (take l.place-index l.places))
