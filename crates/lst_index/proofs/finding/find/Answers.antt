use Rattle.std.proofs.Common.{rules, ◌+◌, ◌<◌, subst, sym, ap, ◌∙◌, arith}
use Rattle.lst_layout.specs.declared.layout.Layout.{Layout}
use Rattle.lst_layout.specs.declared.limits.Limits.{Limits}
use Rattle.lst_core_state.specs.Index.{size, position_of}
use Rattle.lst_rule.proofs.Learning.{kept_on}
use Rattle.lst_index.proofs.Views.{works_on, works_host}
use Rattle.lst_index.proofs.Visiting.{ended_since}
use Rattle.lst_core_state.proofs.Positions.{size_some}
use Rattle.lst_index.proofs.Ending.{ended_unseen, not_over}
use Rattle.lst_index.proofs.Hashing.{size_few}
use Rattle.lst_index.proofs.Searching.{search_on}
use Rattle.lst_index.proofs.finding.find.Goals as goal

pub position-at-requires : goal.position-at-requires
position-at-requires c = subst (λ (y : Layout). c.loop-offset.offset < size y.limits) (sym c.layout.ensures) c.loop-offset.invariant.1

pub returns-in_default-clause-none : goal.returns-in_default-clause-none
returns-in_default-clause-none c = (c.in_default.ensures.none c.args.key c.loop-offset.offset c.loop-offset.invariant.1
    (c.position-at.ensures.position ∙ ap (λ (y : Layout). position_of y.limits c.args.key c.loop-offset.offset) c.layout.ensures) c.loop-offset.invariant.0.passed).ended

pub returns-in_default-clause-since : goal.returns-in_default-clause-since
returns-in_default-clause-since c = ended_since _ _ _ _ _ c.loop-offset.invariant.0.works (c.in_default.ensures.none c.args.key c.loop-offset.offset c.loop-offset.invariant.1
    (c.position-at.ensures.position ∙ ap (λ (y : Layout). position_of y.limits c.args.key c.loop-offset.offset) c.layout.ensures) c.loop-offset.invariant.0.passed)

pub returns-in_default-clause-unseen : goal.returns-in_default-clause-unseen
returns-in_default-clause-unseen c = ended_unseen c.look.new.seat.view c.args.s c.args.key (works_host _ _ _ _ c.look.ensures.works c.loop-offset.invariant.0.host)
    (subst (λ (l : Limits). c.args.s < l.sessions) (sym (c.look.ensures.works.view.limits ∙ c.loop-offset.invariant.0.works.view.limits)) c.requires.own)
    (c.in_default.ensures.none c.args.key c.loop-offset.offset c.loop-offset.invariant.1
    (c.position-at.ensures.position ∙ ap (λ (y : Layout). position_of y.limits c.args.key c.loop-offset.offset) c.layout.ensures) c.loop-offset.invariant.0.passed).ended

pub returns-in-Some-compare-clause-works : goal.returns-in-Some-compare-clause-works
returns-in-Some-compare-clause-works c = works_on _ _ _ _ _ (works_on _ _ _ _ _ c.loop-offset.invariant.0.works c.look.ensures.works) c.compare.ensures.works

pub returns-in_default-clause-kept : goal.returns-in_default-clause-kept
returns-in_default-clause-kept c = kept_on _ _ _ c.loop-offset.invariant.0.works.view.whole c.loop-offset.invariant.0.kept c.look.ensures.kept

pub returns-in-Some-compare-clause-kept : goal.returns-in-Some-compare-clause-kept
returns-in-Some-compare-clause-kept c = kept_on _ _ _ (c.look.ensures.works.view.whole ∙ c.loop-offset.invariant.0.works.view.whole) (kept_on _ _ _ c.loop-offset.invariant.0.works.view.whole c.loop-offset.invariant.0.kept c.look.ensures.kept) c.compare.ensures.kept

pub loop-offset-preserved : goal.loop-offset-preserved
loop-offset-preserved c = let on = search_on _ _ c.loop-offset.seat c.look.new.seat c.compare.new.seat _ _ _ _ _ c.loop-offset.invariant.0 (c.position-at.ensures.position ∙ ap (λ (y : Layout). position_of y.limits c.args.key c.loop-offset.offset) c.layout.ensures)
    c.look.ensures.works c.look.ensures.kept c.look.ensures.placing c.compare.ensures.works c.compare.ensures.kept c.compare.ensures.keeps c.in_default-compare.ensures.other.0 c.compare.ensures.seat in
    (on, not_over c.args.store.now.layout.limits c.compare.new.seat.view c.args.s c.args.key (c.loop-offset.offset + 1) on.seat_of.limits on.host c.consider.ensures on.passed)

pub loop-offset-init : goal.loop-offset-init
loop-offset-init c = (search rules, size_some c.args.store.now.layout.limits c.args.store.now.layout.valid)

pub overflow_add-offset : goal.overflow_add-offset
overflow_add-offset c = let few = size_few c.args.store.now.layout.limits c.args.store.now.layout.valid in let low = c.loop-offset.invariant.1 in omega arith

pub returns-in_default-clause-works : goal.returns-in_default-clause-works
returns-in_default-clause-works c = works_on _ _ _ _ _ c.loop-offset.invariant.0.works c.look.ensures.works

pub unreachable-requires : goal.unreachable-requires
unreachable-requires c = let few = size_few c.args.store.now.layout.limits c.args.store.now.layout.valid in let low = c.loop-offset.invariant.1 in let over = c.loop-offset-test.false in omega arith

pub compare-requires-clause-shows : goal.compare-requires-clause-shows
compare-requires-clause-shows c = search rules
