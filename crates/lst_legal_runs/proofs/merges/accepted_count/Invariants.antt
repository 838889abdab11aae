use Rattle.std.proofs.Common.{◌≡◌, take}
use Rattle.std.specs.List.{count_by}
use Rattle.lst_replies.specs.Runs.{is_accepted}
use Rattle.lst_legal_runs.specs.Places.{run_at}
use Rattle.lst_legal_runs.proofs.merges.accepted_count.Given as goal

abbrev pub invariant-loop-place : goal.invariant-loop-place
invariant-loop-place l = l.count ≡ count_by is_accepted (run_at (take l.place-index l.places))
