use Rattle.std.proofs.Common.{◌*◌}
use Rattle.lst_work.proofs.ParSumming.{sum_is, summed}
use Rattle.lst_work.proofs.par_sums.sum_as_of.Goals as goal

pub returns-clause-sum : goal.returns-clause-sum
returns-clause-sum c = let b = c.begin_as_of.ensures in
    sum_is c.args.session.now c.begin_as_of.new.session b.begun.0 c.args.time (256 * c.args.from) (256 * c.args.to) c.args.column c.sum_ranges-total.result b.session b.begun.1 c.sum_ranges-total.ensures.sum

pub returns-clause-summed : goal.returns-clause-summed
returns-clause-summed c = let b = c.begin_as_of.ensures in let l = c.sum_ranges-total.ensures in let e = c.end.ensures in
    summed c.args.store.now c.args.session.now c.begin_as_of.new.session c.sum_ranges-total.new.session c.end.new.session b.begun.0 c.args.time b.session l.session e.session e.ready b.begun.1 l.looks e.ends
