use Rattle.std.proofs.Common.{refl, Some, None}
use Rattle.lst_serial.proofs.Checking.{told_before}
use Rattle.lst_serial.proofs.checks.change_of.Goals as goal

pub returns-in-Some-clause-some : goal.returns-in-Some-clause-some
returns-in-Some-clause-some c = (refl, told_before c.args.session.now.seat.view c.changed.new.self.seat.view c.args.session.now.number c.args.key (Some c.in-Some.time) c.changed.ensures.looks c.in-Some.ensures.changed)

pub returns-in-None-clause-none : goal.returns-in-None-clause-none
returns-in-None-clause-none c = told_before c.args.session.now.seat.view c.changed.new.self.seat.view c.args.session.now.number c.args.key None c.changed.ensures.looks c.in-None.ensures.changed
