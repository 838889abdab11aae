use Rattle.std.proofs.Common.{length, take}
use Rattle.lst_legal_runs.specs.Places.{run_at}
use Rattle.lst_legal_runs.proofs.Stepping.{Filling}
use Rattle.lst_legal_runs.proofs.gathering.fill_all.Given as goal

abbrev pub invariant-loop-place : goal.invariant-loop-place
invariant-loop-place l = Filling (run_at l.places) l.stamps (length l.fn.pending) l.pending l.slots (run_at (take l.place-index l.places))
