use Rattle.std.proofs.Common.{sym, ◌∙◌}
use Rattle.lst_scan.proofs.Sessioning.{session_still, session_scanned}
use Rattle.lst_scan.proofs.sessions.scan_line.Goals as goal

pub returns-in-Ok-clause-ready : goal.returns-in-Ok-clause-ready
returns-in-Ok-clause-ready c = session_still c.args.store.now c.args.session.now c.rows.new.seat c.requires.ready c.rows.ensures.reader.seat_of (sym c.is_open.ensures ∙ c.if-not-is_open.false) c.rows.ensures.watched

pub returns-in-Ok-clause-called : goal.returns-in-Ok-clause-called
returns-in-Ok-clause-called c = (session_scanned c.args.store.now c.args.session.now c.rows.new.seat c.requires.ready c.rows.ensures.reader.seat_of (sym c.is_open.ensures ∙ c.if-not-is_open.false) c.rows.ensures.watched).looks.called

pub returns-in-Ok-clause-leaves : goal.returns-in-Ok-clause-leaves
returns-in-Ok-clause-leaves c = (session_scanned c.args.store.now c.args.session.now c.rows.new.seat c.requires.ready c.rows.ensures.reader.seat_of (sym c.is_open.ensures ∙ c.if-not-is_open.false) c.rows.ensures.watched, c.in-Ok.ensures.rows)

pub returns-in-Err-clause-ready : goal.returns-in-Err-clause-ready
returns-in-Err-clause-ready c = session_still c.args.store.now c.args.session.now c.rows.new.seat c.requires.ready c.rows.ensures.reader.seat_of (sym c.is_open.ensures ∙ c.if-not-is_open.false) c.rows.ensures.watched

pub returns-in-Err-clause-called : goal.returns-in-Err-clause-called
returns-in-Err-clause-called c = (session_scanned c.args.store.now c.args.session.now c.rows.new.seat c.requires.ready c.rows.ensures.reader.seat_of (sym c.is_open.ensures ∙ c.if-not-is_open.false) c.rows.ensures.watched).looks.called

pub returns-in-Err-clause-looks : goal.returns-in-Err-clause-looks
returns-in-Err-clause-looks c = session_scanned c.args.store.now c.args.session.now c.rows.new.seat c.requires.ready c.rows.ensures.reader.seat_of (sym c.is_open.ensures ∙ c.if-not-is_open.false) c.rows.ensures.watched
