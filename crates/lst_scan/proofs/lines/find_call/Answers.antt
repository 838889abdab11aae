use Rattle.std.proofs.Common.{sym, subst, ap, ◌∙◌}
use Rattle.lst_layout.specs.declared.limits.Limits.{Limits}
use Rattle.lst_machine.specs.Calls.{is_indexed}
use Rattle.lst_scan.specs.Finds.{IsRefused}
use Rattle.lst_scan.proofs.Lining.{crew_still, has_scanned, state_still, find_told}
use Rattle.lst_scan.proofs.lines.find_call.Goals as goal

pub returns-in-Ok-clause-crew : goal.returns-in-Ok-clause-crew
returns-in-Ok-clause-crew c = crew_still c.args.store.now c.args.crew.now c.find.new.seat c.args.s c.requires.crew c.find.ensures.reader.seat_of c.requires.session (sym c.is_open.ensures ∙ c.if-not-is_open.false) c.find.ensures.watched

pub returns-in-Ok-clause-machine : goal.returns-in-Ok-clause-machine
returns-in-Ok-clause-machine c tells = find_told c.args.store.now c.args.crew.now c.find.new.seat c.args.s c.requires.crew c.find.ensures.reader.seat_of c.requires.session (sym c.is_open.ensures ∙ c.if-not-is_open.false) c.find.ensures.watched c.consider.ensures tells c.args.column c.args.number c.in-Ok.list (ap (λ (l : Limits). is_indexed l c.args.column) c.requires.crew.seat_of.limits ∙ c.in-Ok.ensures.keys.0) c.in-Ok.ensures.keys.1

pub returns-in-Ok-clause-session : goal.returns-in-Ok-clause-session
returns-in-Ok-clause-session c = ((ap (λ (l : Limits). is_indexed l c.args.column) c.requires.crew.seat_of.limits ∙ c.in-Ok.ensures.keys.0), has_scanned c.args.store.now c.args.crew.now c.find.new.seat c.args.s c.requires.crew c.find.ensures.reader.seat_of c.requires.session (sym c.is_open.ensures ∙ c.if-not-is_open.false) c.find.ensures.watched, c.in-Ok.ensures.keys.1)

pub returns-in-Err-OutOfMemory-clause-crew : goal.returns-in-Err-OutOfMemory-clause-crew
returns-in-Err-OutOfMemory-clause-crew c = crew_still c.args.store.now c.args.crew.now c.find.new.seat c.args.s c.requires.crew c.find.ensures.reader.seat_of c.requires.session (sym c.is_open.ensures ∙ c.if-not-is_open.false) c.find.ensures.watched

pub returns-in-Err-OutOfMemory-clause-looks : goal.returns-in-Err-OutOfMemory-clause-looks
returns-in-Err-OutOfMemory-clause-looks c = (
  (ap (λ (l : Limits). is_indexed l c.args.column) c.requires.crew.seat_of.limits ∙ subst (IsRefused c.args.store.now.layout.limits c.args.crew.now.seat c.find.new.seat c.args.column) c.in-Err-OutOfMemory.field-0-is c.in-Err-OutOfMemory.ensures.refusal),
  has_scanned c.args.store.now c.args.crew.now c.find.new.seat c.args.s c.requires.crew c.find.ensures.reader.seat_of c.requires.session (sym c.is_open.ensures ∙ c.if-not-is_open.false) c.find.ensures.watched,
)

pub returns-in-Err-OutOfMemory-clause-state : goal.returns-in-Err-OutOfMemory-clause-state
returns-in-Err-OutOfMemory-clause-state c = state_still c.args.store.now c.args.crew.now c.find.new.seat c.args.s c.requires.crew c.find.ensures.reader.seat_of c.requires.session (sym c.is_open.ensures ∙ c.if-not-is_open.false) c.find.ensures.watched
