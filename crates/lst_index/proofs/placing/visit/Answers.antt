use Rattle.std.proofs.Common.{List, ◌<◌, inl, subst, sym, ap, ◌∙◌}
use Rattle.lst_layout.specs.declared.layout.Layout.{Layout}
use Rattle.lst_layout.specs.declared.limits.Limits.{Limits}
use Rattle.lst_core_state.specs.Index.{size, position_of}
use Rattle.lst_index.proofs.Views.{works_on, works_host}
use Rattle.lst_index.proofs.Searching.{passed_on}
use Rattle.lst_core_state.specs.declared.facts.Find.{Find}
use Rattle.lst_core_state.specs.declared.known.Placing.{Placing}
use Rattle.lst_rule.specs.Rule.{knows}
use Rattle.lst_index.specs.Searches.{Works}
use Rattle.lst_index.specs.Visits.{Holds}
use Rattle.lst_index.proofs.Visiting.{found_full, finds_of_err, on_err, keeps_drawn, looked_first, look_passed, look_drawn, settled_uses, settled_passed}
use Rattle.lst_index.proofs.Leaving.{found_leaves, refused_full, settled_leaves}
use Rattle.lst_index.proofs.placing.visit.Goals as goal

pub returns-in-Some-clause-works : goal.returns-in-Some-clause-works
returns-in-Some-clause-works c = works_on _ _ _ _ _ c.look.ensures.works c.compare.ensures.works

pub returns-in-Some-clause-passed : goal.returns-in-Some-clause-passed
returns-in-Some-clause-passed c = look_passed c.args.store.now.layout.limits c.args.seat.now.view c.look.new.seat.view c.compare.new.seat.view c.args.s c.args.key c.args.offset c.position-at.result c.in-Some.number
    (c.position-at.ensures.position ∙ ap (λ (y : Layout). position_of y.limits c.args.key c.args.offset) c.layout.ensures) c.compare.result c.compare.ensures.other
    c.look.ensures.works c.look.ensures.placing c.compare.ensures.works c.requires.holds c.requires.passed

pub returns-in_err-take_record-clause-works : goal.returns-in_err-take_record-clause-works
returns-in_err-take_record-clause-works c = subst (λ (fs : List Find). Works c.args.seat.now.view c.take_record.new.seat.view c.args.s fs) (finds_of_err c.from_residual.result c.from_residual.ensures.0) (works_on _ _ _ _ _ c.look.ensures.works c.in_err-take_record.ensures.works)

pub returns-in_err-take_record-clause-full : goal.returns-in_err-take_record-clause-full
returns-in_err-take_record-clause-full c = on_err c.from_residual.result (found_full c.args.seat.now.view c.look.new.seat.view c.take_record.new.seat.view c.args.s c.args.key c.requires.host c.requires.own c.look.ensures.works
    (c.in_default.ensures.none c.args.key c.args.offset c.requires.offset (c.position-at.ensures.position ∙ ap (λ (y : Layout). position_of y.limits c.args.key c.args.offset) c.layout.ensures) c.requires.passed)
    c.in_err-take_record.ensures.works c.in_err-take_record.ensures.full)

pub settle-requires-clause-passed : goal.settle-requires-clause-passed
settle-requires-clause-passed c = passed_on c.args.store.now.layout.limits c.look.new.seat.view c.take_record.new.seat.view c.args.s c.args.key c.args.offset c.in_ok-take_record.ensures.works (passed_on c.args.store.now.layout.limits c.args.seat.now.view c.look.new.seat.view c.args.s c.args.key c.args.offset c.look.ensures.works c.requires.passed)

pub returns-clause-works : goal.returns-clause-works
returns-clause-works c = works_on _ _ _ _ _ (works_on _ _ _ _ _ c.look.ensures.works c.in_ok-take_record.ensures.works) c.settle.ensures.works

pub returns-clause-uses : goal.returns-clause-uses
returns-clause-uses c = settled_uses (knows c.args.seat.now.view c.args.s).placing (knows c.take_record.new.seat.view c.args.s).placing (knows c.settle.new.seat.view c.args.s).placing
    (look_drawn (knows c.args.seat.now.view c.args.s).placing (knows c.look.new.seat.view c.args.s).placing (knows c.take_record.new.seat.view c.args.s).placing c.look.ensures.placing 1 c.in_ok-take_record.ensures.has.1) c.settle.ensures.drawn

pub returns-clause-passed : goal.returns-clause-passed
returns-clause-passed c = settled_passed c.args.store.now.layout.limits c.args.seat.now.view c.take_record.new.seat.view c.settle.new.seat.view c.args.s c.args.key c.args.offset c.settle.result
    (look_drawn (knows c.args.seat.now.view c.args.s).placing (knows c.look.new.seat.view c.args.s).placing (knows c.take_record.new.seat.view c.args.s).placing c.look.ensures.placing 1 c.in_ok-take_record.ensures.has.1) c.settle.ensures.drawn c.settle.ensures.passed

pub returns-in-Some-clause-words : goal.returns-in-Some-clause-words
returns-in-Some-clause-words c = found_leaves c.args.seat.now.view c.look.new.seat.view c.args.s c.args.key c.look.ensures.works.view.limits c.look.ensures.works.view.whole c.look.ensures.kept c.look.ensures.placing c.compare.new.seat.view c.compare.result c.compare.ensures.kept c.compare.ensures.had

pub returns-in_err-take_record-clause-kept : goal.returns-in_err-take_record-clause-kept
returns-in_err-take_record-clause-kept c = on_err c.from_residual.result (refused_full c.args.seat.now.view c.look.new.seat.view c.args.s c.args.key c.look.ensures.works.view.limits c.look.ensures.works.view.whole c.look.ensures.kept c.look.ensures.placing
    (works_host _ _ _ _ c.look.ensures.works c.requires.host)
    ((c.in_default.ensures.none c.args.key c.args.offset c.requires.offset (c.position-at.ensures.position ∙ ap (λ (y : Layout). position_of y.limits c.args.key c.args.offset) c.layout.ensures) c.requires.passed)).ended
    c.take_record.new.seat.view c.in_err-take_record.ensures.kept c.in_err-take_record.ensures.reached)

pub returns-clause-words : goal.returns-clause-words
returns-clause-words c = settled_leaves c.args.seat.now.view c.look.new.seat.view c.args.s c.args.key c.look.ensures.works.view.limits c.look.ensures.works.view.whole c.look.ensures.kept c.look.ensures.placing
    (works_host _ _ _ _ c.look.ensures.works c.requires.host)
    ((c.in_default.ensures.none c.args.key c.args.offset c.requires.offset (c.position-at.ensures.position ∙ ap (λ (y : Layout). position_of y.limits c.args.key c.args.offset) c.layout.ensures) c.requires.passed)).ended
    c.take_record.new.seat.view c.settle.new.seat.view c.position-at.result (subst (λ (l : Limits). c.position-at.result < size l) (ap (λ (y : Layout). y.limits) c.layout.ensures ∙ sym c.requires.seat.limits) c.position-at.ensures.below)
    c.in_ok-take_record.ensures.works.view.limits c.in_ok-take_record.ensures.works.view.whole c.in_default.ensures.free c.in_ok-take_record.ensures.stores c.settle.result c.settle.ensures.stores

pub returns-in-Some-clause-after_look : goal.returns-in-Some-clause-after_look
returns-in-Some-clause-after_look c = λ is. inl (keeps_drawn (knows c.args.seat.now.view c.args.s).placing (knows c.look.new.seat.view c.args.s).placing (knows c.compare.new.seat.view c.args.s).placing c.look.ensures.placing c.compare.ensures.keeps)

pub returns-clause-after_look : goal.returns-clause-after_look
returns-clause-after_look c = λ is. looked_first c.args.seat.now.view c.look.new.seat.view c.settle.new.seat.view c.args.s c.args.key c.requires.host c.requires.own c.look.ensures.works c.look.ensures.placing
    (c.in_default.ensures.none c.args.key c.args.offset c.requires.offset (c.position-at.ensures.position ∙ ap (λ (y : Layout). position_of y.limits c.args.key c.args.offset) c.layout.ensures) c.requires.passed)

pub position-at-requires : goal.position-at-requires
position-at-requires c = subst (λ (l : Limits). c.args.offset < size l) (sym (ap (λ (y : Layout). y.limits) c.layout.ensures)) c.requires.offset

pub look-requires-clause-seat : goal.look-requires-clause-seat
look-requires-clause-seat c = c.requires.seat

pub look-requires-clause-host : goal.look-requires-clause-host
look-requires-clause-host c = c.requires.host

pub look-requires-clause-position : goal.look-requires-clause-position
look-requires-clause-position c = subst (λ (l : Limits). c.position-at.result < size l) (ap (λ (y : Layout). y.limits) c.layout.ensures) c.position-at.ensures.below

pub compare-requires-clause-seat : goal.compare-requires-clause-seat
compare-requires-clause-seat c = c.look.ensures.seat

pub compare-requires-clause-host : goal.compare-requires-clause-host
compare-requires-clause-host c = works_host _ _ _ _ c.look.ensures.works c.requires.host

pub compare-requires-clause-own : goal.compare-requires-clause-own
compare-requires-clause-own c = subst (λ (l : Limits). c.args.s < l.sessions) (sym c.look.ensures.works.view.limits) c.requires.own

pub compare-requires-clause-number : goal.compare-requires-clause-number
compare-requires-clause-number c = c.in-Some.ensures.some.0

pub compare-requires-clause-shows : goal.compare-requires-clause-shows
compare-requires-clause-shows c = c.in-Some.ensures.some.1

pub take_record-requires-clause-seat : goal.take_record-requires-clause-seat
take_record-requires-clause-seat c = c.look.ensures.seat

pub take_record-requires-clause-host : goal.take_record-requires-clause-host
take_record-requires-clause-host c = works_host _ _ _ _ c.look.ensures.works c.requires.host

pub take_record-requires-clause-own : goal.take_record-requires-clause-own
take_record-requires-clause-own c = subst (λ (l : Limits). c.args.s < l.sessions) (sym c.look.ensures.works.view.limits) c.requires.own

pub take_record-requires-clause-holds : goal.take_record-requires-clause-holds
take_record-requires-clause-holds c = subst (λ (p : Placing). Holds p c.args.key) (sym c.look.ensures.placing) c.requires.holds

pub settle-requires-clause-seat : goal.settle-requires-clause-seat
settle-requires-clause-seat c = c.in_ok-take_record.ensures.seat

pub settle-requires-clause-host : goal.settle-requires-clause-host
settle-requires-clause-host c = works_host _ _ _ _ c.in_ok-take_record.ensures.works (works_host _ _ _ _ c.look.ensures.works c.requires.host)

pub settle-requires-clause-own : goal.settle-requires-clause-own
settle-requires-clause-own c = subst (λ (l : Limits). c.args.s < l.sessions) (sym c.in_ok-take_record.ensures.works.view.limits) (subst (λ (l : Limits). c.args.s < l.sessions) (sym c.look.ensures.works.view.limits) c.requires.own)

pub settle-requires-clause-offset : goal.settle-requires-clause-offset
settle-requires-clause-offset c = c.requires.offset

pub settle-requires-clause-position : goal.settle-requires-clause-position
settle-requires-clause-position c = subst (λ (l : Limits). c.position-at.result < size l) (ap (λ (y : Layout). y.limits) c.layout.ensures) c.position-at.ensures.below

pub settle-requires-clause-is : goal.settle-requires-clause-is
settle-requires-clause-is c = c.position-at.ensures.position ∙ ap (λ (y : Layout). position_of y.limits c.args.key c.args.offset) c.layout.ensures

pub settle-requires-clause-has : goal.settle-requires-clause-has
settle-requires-clause-has c = c.in_ok-take_record.ensures.has.0

pub returns-in-Some-clause-seat : goal.returns-in-Some-clause-seat
returns-in-Some-clause-seat c = c.compare.ensures.seat

pub returns-in-Some-clause-full : goal.returns-in-Some-clause-full
returns-in-Some-clause-full c = tt

pub returns-in-Some-clause-none : goal.returns-in-Some-clause-none
returns-in-Some-clause-none c = tt

pub returns-in-Some-clause-kept : goal.returns-in-Some-clause-kept
returns-in-Some-clause-kept c = tt

pub returns-in_err-take_record-clause-seat : goal.returns-in_err-take_record-clause-seat
returns-in_err-take_record-clause-seat c = c.in_err-take_record.ensures.seat

pub returns-clause-seat : goal.returns-clause-seat
returns-clause-seat c = c.settle.ensures.seat

pub returns-clause-full : goal.returns-clause-full
returns-clause-full c = tt

pub returns-clause-none : goal.returns-clause-none
returns-clause-none c = tt

pub returns-clause-kept : goal.returns-clause-kept
returns-clause-kept c = tt
