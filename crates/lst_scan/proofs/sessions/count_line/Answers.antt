use Rattle.std.proofs.Common.{sym, ◌∙◌}
use Rattle.lst_scan.proofs.Sessioning.{session_still, session_scanned}
use Rattle.lst_scan.proofs.sessions.count_line.Goals as goal

pub returns-clause-ready : goal.returns-clause-ready
returns-clause-ready c = session_still c.args.store.now c.args.session.now c.count-rows.new.seat c.requires.ready c.count-rows.ensures.reader.seat_of (sym c.is_open.ensures ∙ c.if-not-is_open.false) c.count-rows.ensures.watched

pub returns-clause-called : goal.returns-clause-called
returns-clause-called c = (session_scanned c.args.store.now c.args.session.now c.count-rows.new.seat c.requires.ready c.count-rows.ensures.reader.seat_of (sym c.is_open.ensures ∙ c.if-not-is_open.false) c.count-rows.ensures.watched).looks.called

pub returns-clause-leaves : goal.returns-clause-leaves
returns-clause-leaves c = (session_scanned c.args.store.now c.args.session.now c.count-rows.new.seat c.requires.ready c.count-rows.ensures.reader.seat_of (sym c.is_open.ensures ∙ c.if-not-is_open.false) c.count-rows.ensures.watched, c.count-rows.ensures.count)
