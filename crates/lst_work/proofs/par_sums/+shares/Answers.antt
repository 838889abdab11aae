use Rattle.std.proofs.Common.{arith}
use Rattle.lst_work.proofs.ParSumming.{shared_one, shared_split, few_together}
use Rattle.lst_work.proofs.par_sums.+shares.Goals as goal

pub sum_shares-returns-then-sessions-eq1 : goal.sum_shares-returns-then-sessions-eq1
sum_shares-returns-then-sessions-eq1 g t c = let e = c.sum_share.ensures in
    shared_one c.args.store.now c.args.time c.args.column c.args.first c.args.shares c.args.sessions.now c.index-sessions-0.result c.sum_share.new.session c.sum_share.result c.if-sessions-eq1.true e.sum e.few e.summed

pub sum_shares-returns : goal.sum_shares-returns
sum_shares-returns g t c = let both = c.sum_both-below.ensures in
    shared_split _ _ _ _ _ _ _ _ _ _ _ _ _ c.split_at_mut-low.ensures.value (let some = c.requires.some in let inside = c.requires.inside in omega arith) both.low both.high (omega arith)

pub sum_shares-overflow_add-result : goal.sum_shares-overflow_add-result
sum_shares-overflow_add-result g t c = let both = c.sum_both-below.ensures in
    record { fits = few_together _ _ _ _ _ _ _ _ _ _ _ _ (let inside = c.requires.inside in omega arith) (omega arith) (omega arith) both.low both.high }
