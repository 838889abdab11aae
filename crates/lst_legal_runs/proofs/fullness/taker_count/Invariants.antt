use Rattle.std.proofs.Common.{◌≡◌, take}
use Rattle.std.specs.List.{count_by}
use Rattle.lst_replies.specs.Runs.{may_take_record}
use Rattle.lst_legal_runs.specs.Places.{run_at}
use Rattle.lst_legal_runs.proofs.fullness.taker_count.Given as goal

abbrev pub invariant-loop-place : goal.invariant-loop-place
invariant-loop-place l = l.count ≡ count_by may_take_record (run_at (take l.place-index l.places))
