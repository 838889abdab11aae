use Rattle.std.proofs.Common.{◌<◌, sym, subst, ◌∙◌, true≢false}
use Rattle.lst_layout.specs.declared.limits.Limits.{Limits}
use Rattle.lst_core_state.specs.Cells.{record_count}
use Rattle.lst_session.proofs.Crewed.{crew_view}
use Rattle.lst_scan.specs.Savings.{SavesPart}
use Rattle.lst_scan.proofs.Folded.{sum_saves}
use Rattle.lst_scan.proofs.Lining.{crew_still, has_scanned, count_told}
use Rattle.lst_scan.proofs.lines.count_call.Goals as goal

pub returns-clause-crew : goal.returns-clause-crew
returns-clause-crew c = crew_still c.args.store.now c.args.crew.now c.count-rows.new.seat c.args.s c.requires.crew c.count-rows.ensures.reader.seat_of c.requires.session (sym c.is_open.ensures ∙ c.if-not-is_open.false) c.count-rows.ensures.watched

pub returns-clause-machine : goal.returns-clause-machine
returns-clause-machine c tells = count_told c.args.store.now c.args.crew.now c.count-rows.new.seat c.args.s c.requires.crew c.count-rows.ensures.reader.seat_of c.requires.session (sym c.is_open.ensures ∙ c.if-not-is_open.false) c.count-rows.ensures.watched c.consider.ensures tells c.count-rows.result c.count-rows.ensures.count

pub returns-clause-session : goal.returns-clause-session
returns-clause-session c = (has_scanned c.args.store.now c.args.crew.now c.count-rows.new.seat c.args.s c.requires.crew c.count-rows.ensures.reader.seat_of c.requires.session (sym c.is_open.ensures ∙ c.if-not-is_open.false) c.count-rows.ensures.watched, c.count-rows.ensures.count)

pub returns-then-not-is_open-clause-saves : goal.returns-then-not-is_open-clause-saves
returns-then-not-is_open-clause-saves c tells opened = absurd (true≢false (sym opened ∙ (sym c.is_open.ensures ∙ c.if-not-is_open.true)))

pub returns-clause-saves : goal.returns-clause-saves
returns-clause-saves c tells opened = sum_saves c.args.crew.now.seat.view c.count-rows.new.seat.view c.args.s 0 (crew_view c.args.store.now c.args.crew.now c.requires.crew tells) c.consider.ensures
    (c.requires.crew.pinned c.args.s c.requires.session) (subst (λ (l : Limits). 0 < l.columns) (sym c.requires.crew.seat_of.limits) c.args.store.now.layout.valid.columns.0) opened
    (subst (λ (l : Limits). SavesPart c.args.crew.now.seat.view c.count-rows.new.seat.view c.args.s 0 0 (record_count l)) (sym c.requires.crew.seat_of.limits) c.count-rows.ensures.saves)
