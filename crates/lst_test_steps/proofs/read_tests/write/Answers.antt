use Rattle.std.proofs.Common.{refl, sym, ap, ◌∙◌}
use Rattle.lst_core_state.specs.declared.known.Known.{Known}
use Rattle.lst_index.proofs.Views.{works_host}
use Rattle.lst_test_steps.proofs.Idling.{pair_worked, pair_watched, still_placed, fits_row}
use Rattle.lst_test_steps.proofs.read_tests.write.Goals as goal

pub returns-in_default : goal.returns-in_default
returns-in_default c = pair_worked c.args.store.now c.args.seat.now c.args.s c.requires.pair c.requires.session c.place.new.seat _ c.place.ensures.seat c.place.ensures.works c.place.ensures.free

pub write_on-requires-clause-placed : goal.write_on-requires-clause-placed
write_on-requires-clause-placed c = (
  c.args.key,
  still_placed c.place.new.seat.view c.row-seen.new.seat.view c.args.s c.in-Ok.rec.number c.args.key c.in-Ok.ensures.ok.1.0 c.consider.ensures
      (works_host _ _ _ _ c.place.ensures.works (c.requires.pair.hosted c.args.s c.requires.session))
      (ap (λ (k : Known). k.is_open) c.place.ensures.works.view.now ∙ sym c.if-not-is_open.ensures) c.row-seen.ensures.watched c.in-Ok.ensures.ok.1.1,
)

pub write_on-requires-clause-fits : goal.write_on-requires-clause-fits
write_on-requires-clause-fits c = fits_row c.place.new.seat.view c.row-seen.new.seat.view c.args.s c.in-Ok.rec.number c.args.key c.in-Ok.ensures.ok.1.0 c.consider.ensures
    (works_host _ _ _ _ c.place.ensures.works (c.requires.pair.hosted c.args.s c.requires.session))
    (ap (λ (k : Known). k.is_open) c.place.ensures.works.view.now ∙ sym c.if-not-is_open.ensures) c.row-seen.ensures.watched c.in-Ok.ensures.ok.1.1
    c.row-seen.result c.args.act.now c.row-seen.ensures.row (c.if-not-may_act.ensures refl)

pub returns-then-not-may_act : goal.returns-then-not-may_act
returns-then-not-may_act c = pair_watched c.args.store.now c.place.new.seat c.args.s (pair_worked c.args.store.now c.args.seat.now c.args.s c.requires.pair c.requires.session c.place.new.seat _ c.place.ensures.seat c.place.ensures.works c.place.ensures.free) c.requires.session c.row-seen.new.seat c.row-seen.ensures.seat c.row-seen.ensures.watched

pub write_on-requires-clause-pair : goal.write_on-requires-clause-pair
write_on-requires-clause-pair c = pair_watched c.args.store.now c.place.new.seat c.args.s (pair_worked c.args.store.now c.args.seat.now c.args.s c.requires.pair c.requires.session c.place.new.seat _ c.place.ensures.seat c.place.ensures.works c.place.ensures.free) c.requires.session c.row-seen.new.seat c.row-seen.ensures.seat c.row-seen.ensures.watched
