use Rattle.std.proofs.Common.{arith}
use Rattle.lst_rule.specs.Rule.{knows}
use Rattle.lst_serial.proofs.Checking.{least_first, least_lower, least_kept}
use Rattle.lst_serial.proofs.checks.least_with.Goals as goal

pub returns-in_default-clause-least : goal.returns-in_default-clause-least
returns-in_default-clause-least c = let k = knows c.args.session.now.seat.view c.args.session.now.number in least_first k.seen k.begin c.args.key c.args.least c.change_of.result c.in_default.is c.change_of.ensures.some c.change_of.ensures.none

pub returns-in-Some-change_of-clause-least : goal.returns-in-Some-change_of-clause-least
returns-in-Some-change_of-clause-least c = let k = knows c.args.session.now.seat.view c.args.session.now.number in least_lower k.seen k.begin c.args.key c.args.least c.in-Some.change c.in-Some-change_of.lower c.in-Some.is
    (let n = c.if-change-key.false in omega arith) c.in-Some-change_of.ensures.some.0 c.in-Some-change_of.ensures.some.1

pub returns-in-None-clause-least : goal.returns-in-None-clause-least
returns-in-None-clause-least c = let k = knows c.args.session.now.seat.view c.args.session.now.number in least_kept k.seen k.begin c.args.key c.args.least c.in-Some.change c.in-Some.is c.in-None.ensures.none
