use Rattle.std.proofs.Common.{◌≡◌, ℕ, ◌-◌, ◌<◌, true}
use Rattle.lst_session.specs.Parting.{has_number}
use Rattle.lst_session.proofs.gathers.first_missing.Given as goal

abbrev pub invariant-loop-s : goal.invariant-loop-s
invariant-loop-s l = (t : ℕ) → t < l.s → has_number l.sessions t ≡ true

abbrev pub decreases-loop-s : goal.decreases-loop-s
decreases-loop-s l = l.count - l.s
