use Rattle.std.proofs.Common.{◌≡◌, ℕ, ◌-◌, ◌<◌, true}
use Rattle.lst_seat.specs.Seats.{hosted_by}
use Rattle.lst_seat.proofs.gathers.first_missing.Given as goal

abbrev pub invariant-loop-s : goal.invariant-loop-s
invariant-loop-s l = (t : ℕ) → t < l.s → hosted_by l.seats l.merger.view t ≡ true

abbrev pub decreases-loop-s : goal.decreases-loop-s
decreases-loop-s l = l.sessions - l.s
