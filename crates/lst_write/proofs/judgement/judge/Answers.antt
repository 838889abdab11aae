use Rattle.lst_rule.specs.Rule.{knows}
use Rattle.lst_write.proofs.Walking.{judged_at}
use Rattle.lst_write.proofs.judgement.judge.Goals as goal

pub returns-in-Ok-clause-ok : goal.returns-in-Ok-clause-ok
returns-in-Ok-clause-ok c = judged_at c.judged_version.new.seat.view.limits (knows c.judged_version.new.seat.view c.args.s) c.args.s c.args.rec.number c.args.head _ c.in-Ok.ensures.ok
