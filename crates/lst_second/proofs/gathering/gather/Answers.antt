use Rattle.std.proofs.Common.{List, sym, subst, ap}
use Rattle.lst_layout.specs.declared.layout.Layout.{Layout}
use Rattle.lst_rule.specs.declared.records.RecordId.{RecordId}
use Rattle.lst_rule.specs.Rule.{knows}
use Rattle.lst_second.specs.Gathers.{Gathers}
use Rattle.lst_second.proofs.Runs.{offset_short, offsets_over}
use Rattle.lst_rule.proofs.PostingFacts.{endless}
use Rattle.lst_second.proofs.Probing.{probes_none, probes_on}
use Rattle.lst_second.proofs.Gathered.{gathers_none, gathers_on, gathered, gathered_low, taken_counted}
use Rattle.lst_second.proofs.gathering.gather.Goals as goal

pub loop-offset-init : goal.loop-offset-init
loop-offset-init c = (
  probes_none c.args.seat.now.view c.args.s,
  subst (λ (rs : List RecordId). Gathers c.args.store.now c.args.seat.now c.args.s c.args.sought rs 0) (sym c.new-records.ensures.items) (gathers_none c.args.store.now c.args.seat.now c.args.s c.args.sought c.requires.seeks),
)

pub tail_at-requires-clause-offset : goal.tail_at-requires-clause-offset
tail_at-requires-clause-offset c = offset_short c.layout.result.now.limits c.args.store.now.layout.limits c.posting_positions-all.result c.loop-offset.offset c.loop-offset-test.true c.posting_positions-all.ensures.count (ap (λ (y : Layout). y.limits) c.layout.ensures)

pub returns-in_default-clause-probes : goal.returns-in_default-clause-probes
returns-in_default-clause-probes c = probes_on _ _ _ _ c.loop-offset.invariant.0 c.tail_at.ensures.probes

pub returns-in_default-clause-low : goal.returns-in_default-clause-low
returns-in_default-clause-low c = let on = gathers_on c.args.store.now c.loop-offset.seat c.tail_at.new.seat c.args.s c.args.sought c.loop-offset.records.items c.loop-offset.offset c.loop-offset.invariant.1 c.tail_at.ensures.probes c.tail_at.ensures.seeks.seat_of in
    gathered_low c.args.store.now c.tail_at.new.seat c.args.s c.args.sought c.loop-offset.records.items c.loop-offset.offset on c.consider.ensures

pub returns-in_default-clause-holders : goal.returns-in_default-clause-holders
returns-in_default-clause-holders c = let on = gathers_on c.args.store.now c.loop-offset.seat c.tail_at.new.seat c.args.s c.args.sought c.loop-offset.records.items c.loop-offset.offset c.loop-offset.invariant.1 c.tail_at.ensures.probes c.tail_at.ensures.seeks.seat_of in
    gathered c.args.store.now c.tail_at.new.seat c.args.s c.args.sought c.loop-offset.records.items c.loop-offset.offset on
    (offset_short c.layout.result.now.limits c.args.store.now.layout.limits c.posting_positions-all.result c.loop-offset.offset c.loop-offset-test.true c.posting_positions-all.ensures.count (ap (λ (y : Layout). y.limits) c.layout.ensures))
    c.in_default.ensures.none

pub pass-requires-clause-gathers : goal.pass-requires-clause-gathers
pass-requires-clause-gathers c = gathers_on c.args.store.now c.loop-offset.seat c.tail_at.new.seat c.args.s c.args.sought c.loop-offset.records.items c.loop-offset.offset c.loop-offset.invariant.1 c.tail_at.ensures.probes c.tail_at.ensures.seeks.seat_of

pub returns-in_err-pass-clause-probes : goal.returns-in_err-pass-clause-probes
returns-in_err-pass-clause-probes c = probes_on _ _ _ _ (probes_on _ _ _ _ c.loop-offset.invariant.0 c.tail_at.ensures.probes) c.pass.ensures.probes

pub loop-offset-preserved : goal.loop-offset-preserved
loop-offset-preserved c = (probes_on _ _ _ _ (probes_on _ _ _ _ c.loop-offset.invariant.0 c.tail_at.ensures.probes) c.pass.ensures.probes, c.in_ok-pass.ensures.ok)

pub unreachable-requires : goal.unreachable-requires
unreachable-requires c = let g = c.loop-offset.invariant.1 in endless c.args.store.now.layout.limits c.loop-offset.seat.view c.args.s c.args.sought.column c.args.sought.value c.loop-offset.offset g.seeks.seat_of.limits g.seeks.host c.consider-2.ensures
    (taken_counted c.args.store.now.layout.limits (knows c.loop-offset.seat.view c.args.s).facts c.args.sought.column c.args.sought.value c.loop-offset.records.items c.loop-offset.offset g.passed)
    (offsets_over c.layout.result.now.limits c.args.store.now.layout.limits c.posting_positions-all.result c.loop-offset.offset c.loop-offset-test.false c.posting_positions-all.ensures.count (ap (λ (y : Layout). y.limits) c.layout.ensures))
