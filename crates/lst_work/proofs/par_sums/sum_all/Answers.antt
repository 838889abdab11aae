use Rattle.lst_work.proofs.ParSumming.{summed_all}
use Rattle.lst_work.proofs.par_sums.sum_all.Goals as goal

pub returns-clause-sum : goal.returns-clause-sum
returns-clause-sum g c = summed_all c.args.store.now c.args.time c.args.column c.args.sessions.now c.sum_shares.new.sessions c.index-sessions-0.result c.sum_shares.result c.requires.some c.requires.can c.requires.alike c.consider.ensures c.sum_shares.ensures
