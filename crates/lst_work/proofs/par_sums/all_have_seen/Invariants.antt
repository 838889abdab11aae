use Rattle.std.proofs.Common.{ℕ, ◌<◌, ◌≤◌, length}
use Rattle.lst_rule.specs.Rule.{knows}
use Rattle.lst_work.proofs.par_sums.all_have_seen.Given as goal

abbrev pub invariant-loop-s : goal.invariant-loop-s
invariant-loop-s l = (t : ℕ) → t < l.s → l.time ≤ length (knows l.crew.seat.view t).seen
