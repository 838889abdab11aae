use Rattle.std.proofs.Common.{ℕ, ◌<◌, get_or}
use Rattle.lst_session.specs.declared.session.Session.{Session}
use Rattle.lst_work.specs.ParSums.{CanBeginAsOf}
use Rattle.lst_work.proofs.par_sums.all_can_begin.Given as goal

abbrev pub invariant-loop-i : goal.invariant-loop-i
invariant-loop-i l = (k : ℕ) → k < l.i → (d : Session) → CanBeginAsOf l.store l.time (get_or l.sessions k d)
