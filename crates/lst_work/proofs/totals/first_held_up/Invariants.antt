use Rattle.std.proofs.Common.{ℕ, ◌<◌}
use Rattle.lst_session.specs.Lines.{CanBegin}
use Rattle.lst_work.proofs.totals.first_held_up.Given as goal

abbrev pub invariant-loop-s : goal.invariant-loop-s
invariant-loop-s l = (t : ℕ) → t < l.s → CanBegin l.crew.seat.view t
