use Rattle.std.proofs.Common.{◌∙◌}
use Rattle.lst_work.proofs.Ordering.{taken_first, taken_others}
use Rattle.lst_work.proofs.orders.taken.Goals as goal

pub returns-clause-first : goal.returns-clause-first
returns-clause-first c = taken_first c.args.queues.now c.args.queue c.index-queues-queue.result c.pop.new.self c.requires.inside c.in-Some.reply c.index-queues-queue.is (c.index-queues-queue.is ∙ c.in-Some.ensures)

pub returns-clause-others : goal.returns-clause-others
returns-clause-others c = taken_others c.args.queues.now c.args.queue c.index-queues-queue.result c.pop.new.self c.requires.inside
