use Rattle.std.proofs.Common.{sym, ◌∙◌}
use Rattle.lst_scan.proofs.Lining.{crew_still, has_scanned, state_still, scan_told}
use Rattle.lst_scan.proofs.lines.scan_call.Goals as goal

pub returns-in-Err-clause-crew : goal.returns-in-Err-clause-crew
returns-in-Err-clause-crew c = crew_still c.args.store.now c.args.crew.now c.rows.new.seat c.args.s c.requires.crew c.rows.ensures.reader.seat_of c.requires.session (sym c.is_open.ensures ∙ c.if-not-is_open.false) c.rows.ensures.watched

pub returns-in-Err-clause-looks : goal.returns-in-Err-clause-looks
returns-in-Err-clause-looks c = has_scanned c.args.store.now c.args.crew.now c.rows.new.seat c.args.s c.requires.crew c.rows.ensures.reader.seat_of c.requires.session (sym c.is_open.ensures ∙ c.if-not-is_open.false) c.rows.ensures.watched

pub returns-in-Err-clause-state : goal.returns-in-Err-clause-state
returns-in-Err-clause-state c = state_still c.args.store.now c.args.crew.now c.rows.new.seat c.args.s c.requires.crew c.rows.ensures.reader.seat_of c.requires.session (sym c.is_open.ensures ∙ c.if-not-is_open.false) c.rows.ensures.watched

pub returns-in-Ok-clause-crew : goal.returns-in-Ok-clause-crew
returns-in-Ok-clause-crew c = crew_still c.args.store.now c.args.crew.now c.rows.new.seat c.args.s c.requires.crew c.rows.ensures.reader.seat_of c.requires.session (sym c.is_open.ensures ∙ c.if-not-is_open.false) c.rows.ensures.watched

pub returns-in-Ok-clause-machine : goal.returns-in-Ok-clause-machine
returns-in-Ok-clause-machine c tells = scan_told c.args.store.now c.args.crew.now c.rows.new.seat c.args.s c.requires.crew c.rows.ensures.reader.seat_of c.requires.session (sym c.is_open.ensures ∙ c.if-not-is_open.false) c.rows.ensures.watched c.consider.ensures tells c.in-Ok.list c.in-Ok.ensures.rows

pub returns-in-Ok-clause-session : goal.returns-in-Ok-clause-session
returns-in-Ok-clause-session c = (has_scanned c.args.store.now c.args.crew.now c.rows.new.seat c.args.s c.requires.crew c.rows.ensures.reader.seat_of c.requires.session (sym c.is_open.ensures ∙ c.if-not-is_open.false) c.rows.ensures.watched, c.in-Ok.ensures.rows)
