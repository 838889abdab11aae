use Rattle.std.proofs.Common.{arith}
use Rattle.lst_rule.specs.Rule.{knows}
use Rattle.lst_session.proofs.Growing.{begun_early}
use Rattle.lst_serial.proofs.Checking.{above_none}
use Rattle.lst_serial.proofs.checks.first_above.Goals as goal

pub returns-else-seen-begin-clause-stale : goal.returns-else-seen-begin-clause-stale
returns-else-seen-begin-clause-stale c = above_none (knows c.args.session.now.seat.view c.args.session.now.number) c.args.keys.now
    (begun_early c.args.session.now.seat.view c.args.session.now.number c.consider.ensures c.requires.host c.requires.opened)
    (let h = c.if-seen-begin.false in let seen = c.seen.ensures.is in let begin = c.begin-begin.ensures in omega arith)
