use Rattle.std.proofs.Common.{sym, ◌∙◌, true≢false}
use Rattle.lst_serial.proofs.Ending.{end_committed, end_ended, end_stale, end_opened}
use Rattle.lst_serial.proofs.serial.Serial.commit.Goals as goal

pub returns-clause-committed : goal.returns-clause-committed
returns-clause-committed g c = end_committed c.args.self.now.session.seat.view c.end_at_last.new.session.seat.view c.args.self.now.session.number c.args.self.now.keys c.args.self.now.all c.end_at_last.result c.end_at_last.ensures.end

pub returns-clause-ended : goal.returns-clause-ended
returns-clause-ended g c = end_ended c.args.self.now.session.seat.view c.end_at_last.new.session.seat.view c.args.self.now.session.number c.args.self.now.keys c.args.self.now.all c.end_at_last.result c.end_at_last.ensures.end

pub returns-clause-stale : goal.returns-clause-stale
returns-clause-stale g c = end_stale c.args.self.now.session.seat.view c.end_at_last.new.session.seat.view c.args.self.now.session.number c.args.self.now.keys c.args.self.now.all c.end_at_last.result c.end_at_last.ensures.end

pub returns-clause-still : goal.returns-clause-still
returns-clause-still g c is = absurd (end_opened c.args.self.now.session.seat.view c.end_at_last.new.session.seat.view c.args.self.now.session.number c.args.self.now.keys c.args.self.now.all c.end_at_last.result c.end_at_last.ensures.end is)

pub returns-clause-idle : goal.returns-clause-idle
returns-clause-idle g c = (λ is. absurd (end_opened c.args.self.now.session.seat.view c.end_at_last.new.session.seat.view c.args.self.now.session.number c.args.self.now.keys c.args.self.now.all c.end_at_last.result c.end_at_last.ensures.end is), λ e. absurd (true≢false (sym (c.is_idle.ensures.1 e) ∙ c.if-is_idle.false)))
