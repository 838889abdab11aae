use Rattle.std.proofs.Common.{sym, subst, ◌∙◌, true≢false}
use Rattle.lst_layout.specs.declared.limits.Limits.{Limits}
use Rattle.lst_core_state.specs.Cells.{record_count}
use Rattle.lst_session.proofs.Crewed.{crew_view}
use Rattle.lst_scan.specs.Savings.{SavesPart}
use Rattle.lst_scan.proofs.Lining.{crew_still, has_scanned, sum_told}
use Rattle.lst_scan.proofs.Folded.{sum_saves}
use Rattle.lst_scan.proofs.lines.sum_call.Goals as goal

pub returns-clause-crew : goal.returns-clause-crew
returns-clause-crew c = crew_still c.args.store.now c.args.crew.now c.sum-total.new.seat c.args.s c.requires.crew c.sum-total.ensures.reader.seat_of c.requires.session (sym c.is_open.ensures ∙ c.if-not-is_open.false) c.sum-total.ensures.watched

pub returns-clause-machine : goal.returns-clause-machine
returns-clause-machine c tells = sum_told c.args.store.now c.args.crew.now c.sum-total.new.seat c.args.s c.requires.crew c.sum-total.ensures.reader.seat_of c.requires.session (sym c.is_open.ensures ∙ c.if-not-is_open.false) c.sum-total.ensures.watched c.consider.ensures tells c.args.column c.sum-total.result c.sum-total.ensures.sum

pub returns-clause-session : goal.returns-clause-session
returns-clause-session c = (has_scanned c.args.store.now c.args.crew.now c.sum-total.new.seat c.args.s c.requires.crew c.sum-total.ensures.reader.seat_of c.requires.session (sym c.is_open.ensures ∙ c.if-not-is_open.false) c.sum-total.ensures.watched, c.sum-total.ensures.sum)

pub returns-then-not-is_open-clause-saves : goal.returns-then-not-is_open-clause-saves
returns-then-not-is_open-clause-saves c tells opened = absurd (true≢false (sym opened ∙ (sym c.is_open.ensures ∙ c.if-not-is_open.true)))

pub returns-clause-saves : goal.returns-clause-saves
returns-clause-saves c tells opened = sum_saves c.args.crew.now.seat.view c.sum-total.new.seat.view c.args.s c.args.column (crew_view c.args.store.now c.args.crew.now c.requires.crew tells) c.consider.ensures
    (c.requires.crew.pinned c.args.s c.requires.session) c.requires.column opened
    (subst (λ (l : Limits). SavesPart c.args.crew.now.seat.view c.sum-total.new.seat.view c.args.s c.args.column 0 (record_count l)) (sym c.requires.crew.seat_of.limits) c.sum-total.ensures.saves)
