use Rattle.std.proofs.Common.{List, refl, subst, ap}
use Rattle.lst_layout.specs.declared.layout.Layout.{Layout}
use Rattle.lst_core_state.specs.declared.facts.Find.{Find}
use Rattle.lst_index.specs.Searches.{Works}
use Rattle.lst_index.proofs.Views.{works_on}
use Rattle.lst_index.proofs.Ending.{endless}
use Rattle.lst_index.proofs.Searching.{offset_short, offsets_over}
use Rattle.lst_index.proofs.Visiting.{none_is, on_err, finds_of_err, place_on, place_first, place_drew, full_on, looked_on}
use Rattle.lst_index.proofs.Leaving.{place_leaves, place_full, placed_again, never_full}
use Rattle.lst_index.proofs.placing.place.Goals as goal

pub loop-offset-init : goal.loop-offset-init
loop-offset-init c = place_first _ _ _ _ c.requires.seat c.requires.host c.requires.own c.requires.free c.consider.ensures

pub visit-requires-clause-offset : goal.visit-requires-clause-offset
visit-requires-clause-offset c = offset_short c.layout.result.now.limits c.args.store.now.layout.limits c.index_positions-all.result c.loop-offset.offset c.loop-offset-test.true c.index_positions-all.ensures.count (ap (λ (y : Layout). y.limits) c.layout.ensures)

pub returns-in_err-placed-clause-works : goal.returns-in_err-placed-clause-works
returns-in_err-placed-clause-works c = subst (λ (fs : List Find). Works c.args.seat.now.view c.visit.new.seat.view c.args.s fs) (finds_of_err c.from_residual.result c.from_residual.ensures.0) (works_on _ _ _ _ _ c.loop-offset.invariant.works c.in_err-placed.ensures.works)

pub returns-in_err-placed-clause-drew : goal.returns-in_err-placed-clause-drew
returns-in_err-placed-clause-drew c = place_drew _ _ c.loop-offset.seat c.visit.new.seat.view _ _ _ 1 c.loop-offset.invariant c.in_err-placed.ensures.uses

pub returns-in_err-placed-clause-full : goal.returns-in_err-placed-clause-full
returns-in_err-placed-clause-full c = on_err c.from_residual.result (full_on _ _ _ _ _ c.loop-offset.invariant.works c.in_err-placed.ensures.full)

pub returns-in_err-placed-clause-none : goal.returns-in_err-placed-clause-none
returns-in_err-placed-clause-none c = on_err c.from_residual.result (place_drew _ _ c.loop-offset.seat c.visit.new.seat.view _ _ _ 0 c.loop-offset.invariant c.in_err-placed.ensures.none.1)

pub returns-in-Some-clause-works : goal.returns-in-Some-clause-works
returns-in-Some-clause-works c = works_on _ _ _ _ _ c.loop-offset.invariant.works c.in_ok-placed.ensures.works

pub returns-in-Some-clause-drew : goal.returns-in-Some-clause-drew
returns-in-Some-clause-drew c = place_drew _ _ c.loop-offset.seat c.visit.new.seat.view _ _ _ 1 c.loop-offset.invariant c.in_ok-placed.ensures.uses

pub loop-offset-preserved : goal.loop-offset-preserved
loop-offset-preserved c = place_on _ _ c.loop-offset.seat c.visit.new.seat _ _ _ c.loop-offset.invariant c.in_ok-placed.ensures.works c.visit.ensures.seat (none_is c.in_ok-placed.field-0 c.in_default.is c.in_ok-placed.ensures.passed) (none_is c.in_ok-placed.field-0 c.in_default.is c.in_ok-placed.ensures.rests) (c.in_ok-placed.ensures.after_look refl)

pub unreachable-requires : goal.unreachable-requires
unreachable-requires c = endless c.args.store.now.layout.limits c.loop-offset.seat.view c.args.s c.args.key c.loop-offset.offset c.loop-offset.invariant.seat_of.limits c.loop-offset.invariant.host c.consider-2.ensures c.loop-offset.invariant.passed
    (offsets_over c.layout.result.now.limits c.args.store.now.layout.limits c.index_positions-all.result c.loop-offset.offset c.loop-offset-test.false c.index_positions-all.ensures.count (ap (λ (y : Layout). y.limits) c.layout.ensures))

pub returns-in-Some-clause-words : goal.returns-in-Some-clause-words
returns-in-Some-clause-words c = place_leaves _ _ c.loop-offset.seat _ _ _ c.loop-offset.invariant c.visit.new.seat.view.words c.in_ok-placed.field-0 c.in-Some.placed c.in-Some.is c.in_ok-placed.ensures.words

pub returns-in-Some-clause-again : goal.returns-in-Some-clause-again
returns-in-Some-clause-again c = λ whole r had. placed_again c.args.seat.now.view c.consider.ensures whole c.args.key r had c.visit.new.seat.view.words c.in-Some.placed.number
    (place_leaves _ _ c.loop-offset.seat _ _ _ c.loop-offset.invariant c.visit.new.seat.view.words c.in_ok-placed.field-0 c.in-Some.placed c.in-Some.is c.in_ok-placed.ensures.words whole)

pub returns-in_err-placed-clause-kept : goal.returns-in_err-placed-clause-kept
returns-in_err-placed-clause-kept c = on_err c.from_residual.result (place_full _ _ c.loop-offset.seat _ _ _ c.loop-offset.invariant c.visit.new.seat.view.words c.in_err-placed.ensures.kept)

pub returns-in_err-placed-clause-missed : goal.returns-in_err-placed-clause-missed
returns-in_err-placed-clause-missed c = on_err c.from_residual.result (λ whole r had. never_full c.args.seat.now.view c.consider.ensures whole c.args.key r had c.visit.new.seat.view.words (place_full _ _ c.loop-offset.seat _ _ _ c.loop-offset.invariant c.visit.new.seat.view.words c.in_err-placed.ensures.kept whole))

pub returns-in-Some-clause-after_look : goal.returns-in-Some-clause-after_look
returns-in-Some-clause-after_look c = λ is. looked_on c.args.seat.now.view c.loop-offset.seat.view c.visit.new.seat.view c.args.s c.args.key c.loop-offset.invariant.works c.loop-offset.invariant.after_look (c.in_ok-placed.ensures.after_look refl)
