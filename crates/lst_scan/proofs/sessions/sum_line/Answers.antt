use Rattle.std.proofs.Common.{sym, ◌∙◌}
use Rattle.lst_scan.proofs.Sessioning.{session_still, session_scanned}
use Rattle.lst_scan.proofs.sessions.sum_line.Goals as goal

pub returns-clause-ready : goal.returns-clause-ready
returns-clause-ready c = session_still c.args.store.now c.args.session.now c.sum-total.new.seat c.requires.ready c.sum-total.ensures.reader.seat_of (sym c.is_open.ensures ∙ c.if-not-is_open.false) c.sum-total.ensures.watched

pub returns-clause-called : goal.returns-clause-called
returns-clause-called c = (session_scanned c.args.store.now c.args.session.now c.sum-total.new.seat c.requires.ready c.sum-total.ensures.reader.seat_of (sym c.is_open.ensures ∙ c.if-not-is_open.false) c.sum-total.ensures.watched).looks.called

pub returns-clause-leaves : goal.returns-clause-leaves
returns-clause-leaves c = (session_scanned c.args.store.now c.args.session.now c.sum-total.new.seat c.requires.ready c.sum-total.ensures.reader.seat_of (sym c.is_open.ensures ∙ c.if-not-is_open.false) c.sum-total.ensures.watched, c.sum-total.ensures.sum)
