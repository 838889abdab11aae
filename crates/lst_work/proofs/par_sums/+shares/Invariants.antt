use Rattle.std.proofs.Common.{◌+◌, ◌*◌, length}
use Rattle.lst_work.proofs.par_sums.+shares.Given as goal

abbrev pub decreases-sum_shares : goal.decreases-sum_shares
decreases-sum_shares g l = 4 * length l.sessions.now + 1

abbrev pub decreases-sum_both : goal.decreases-sum_both
decreases-sum_both g l = 4 * (length l.low.now + length l.high.now)

abbrev pub decreases-sum_both-left : goal.decreases-sum_both-left
decreases-sum_both-left g l = 4 * length l.low.now + 2

abbrev pub decreases-sum_both-right : goal.decreases-sum_both-right
decreases-sum_both-right g l = 4 * length l.high.now + 2
