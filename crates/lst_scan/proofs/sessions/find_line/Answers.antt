use Rattle.std.proofs.Common.{sym, subst, ap, ◌∙◌}
use Rattle.lst_layout.specs.declared.limits.Limits.{Limits}
use Rattle.lst_machine.specs.Calls.{is_indexed}
use Rattle.lst_scan.specs.Finds.{IsRefused}
use Rattle.lst_scan.proofs.Sessioning.{session_still, session_scanned}
use Rattle.lst_scan.proofs.sessions.find_line.Goals as goal

pub returns-in-Ok-clause-ready : goal.returns-in-Ok-clause-ready
returns-in-Ok-clause-ready c = session_still c.args.store.now c.args.session.now c.find.new.seat c.requires.ready c.find.ensures.reader.seat_of (sym c.is_open.ensures ∙ c.if-not-is_open.false) c.find.ensures.watched

pub returns-in-Ok-clause-called : goal.returns-in-Ok-clause-called
returns-in-Ok-clause-called c = (session_scanned c.args.store.now c.args.session.now c.find.new.seat c.requires.ready c.find.ensures.reader.seat_of (sym c.is_open.ensures ∙ c.if-not-is_open.false) c.find.ensures.watched).looks.called

pub returns-in-Ok-clause-leaves : goal.returns-in-Ok-clause-leaves
returns-in-Ok-clause-leaves c = (ap (λ (l : Limits). is_indexed l c.args.column) c.requires.ready.seat_of.limits ∙ c.in-Ok.ensures.keys.0, session_scanned c.args.store.now c.args.session.now c.find.new.seat c.requires.ready c.find.ensures.reader.seat_of (sym c.is_open.ensures ∙ c.if-not-is_open.false) c.find.ensures.watched, c.in-Ok.ensures.keys.1)

pub returns-in-Err-OutOfMemory-clause-ready : goal.returns-in-Err-OutOfMemory-clause-ready
returns-in-Err-OutOfMemory-clause-ready c = session_still c.args.store.now c.args.session.now c.find.new.seat c.requires.ready c.find.ensures.reader.seat_of (sym c.is_open.ensures ∙ c.if-not-is_open.false) c.find.ensures.watched

pub returns-in-Err-OutOfMemory-clause-called : goal.returns-in-Err-OutOfMemory-clause-called
returns-in-Err-OutOfMemory-clause-called c = (session_scanned c.args.store.now c.args.session.now c.find.new.seat c.requires.ready c.find.ensures.reader.seat_of (sym c.is_open.ensures ∙ c.if-not-is_open.false) c.find.ensures.watched).looks.called

pub returns-in-Err-OutOfMemory-clause-looks : goal.returns-in-Err-OutOfMemory-clause-looks
returns-in-Err-OutOfMemory-clause-looks c = (ap (λ (l : Limits). is_indexed l c.args.column) c.requires.ready.seat_of.limits ∙ subst (IsRefused c.args.store.now.layout.limits c.args.session.now.seat c.find.new.seat c.args.column) c.in-Err-OutOfMemory.field-0-is c.in-Err-OutOfMemory.ensures.refusal, session_scanned c.args.store.now c.args.session.now c.find.new.seat c.requires.ready c.find.ensures.reader.seat_of (sym c.is_open.ensures ∙ c.if-not-is_open.false) c.find.ensures.watched)

pub returns-then-not-is_open-clause-ready : goal.returns-then-not-is_open-clause-ready
returns-then-not-is_open-clause-ready c = c.requires.ready

pub find-requires-clause-reader : goal.find-requires-clause-reader
find-requires-clause-reader c = record { seat_of = c.requires.ready.seat_of; host = c.requires.ready.host; own = c.requires.ready.own; opened = sym c.is_open.ensures ∙ c.if-not-is_open.false }
