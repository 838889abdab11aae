use Rattle.std.proofs.Common.{◌≡◌, ◌≢◌, ◌-◌, sym, subst, ap, arith}
use mathlib.Core.Logic.{dite}
use native.Mathlib.Decide.{ℕ_discrete}
use Rattle.lst_rule.specs.Rule.{knows}
use Rattle.lst_index.specs.Visits.{Shows}
use Rattle.lst_core_state.specs.Cells.{record_count}
use Rattle.lst_index.proofs.Claims.{can_claim, hand_few, won_works, won_placing, won_placed, lost_works, lost_placing, lost_shows, lost_few, lost_taken}
use Rattle.lst_index.proofs.placing.claim.Goals as goal

pub step_claim-word-requires-clause-stands : goal.step_claim-word-requires-clause-stands
step_claim-word-requires-clause-stands c = can_claim c.args.store.now.layout.limits c.args.seat.now.view c.args.s c.args.position c.args.offset c.args.key c.requires.seat.limits c.requires.host c.requires.has.same c.requires.offset c.requires.is c.requires.passed

-- what the exchange finds is an index word
pub unpack_index-requires : goal.unpack_index-requires
unpack_index-requires c = dite (ℕ_discrete c.step_claim-word.result 0) (λ e. omega arith)
    (λ ne. let few = lost_few _ _ _ _ _ _ c.step_claim-word.ensures.met ne in let e : record_count c.args.seat.now.view.limits ≡ record_count c.args.store.now.layout.limits = ap record_count c.requires.seat.limits in let ranges = c.args.store.now.layout.valid.ranges.1 in omega arith)

pub returns-in-None-clause-works : goal.returns-in-None-clause-works
returns-in-None-clause-works c = won_works _ _ _ _ _ _ c.step_claim-word.ensures.met (sym c.in-None.ensures.word)

pub returns-in-None-clause-won : goal.returns-in-None-clause-won
returns-in-None-clause-won c = (
  (let few = hand_few c.args.store.now.layout.limits c.args.seat.now.view c.args.s c.requires.seat.limits c.requires.host c.requires.own c.consider.ensures in let e = c.in-Some.ensures in omega arith),
  won_placed _ _ _ _ _ _ c.step_claim-word.ensures.met (sym c.in-None.ensures.word) c.in-Some.number c.args.key c.in-Some.ensures c.requires.has.same,
  won_placing _ _ _ _ _ _ c.step_claim-word.ensures.met (sym c.in-None.ensures.word),
)

pub returns-in-Some-unpack_index-clause-works : goal.returns-in-Some-unpack_index-clause-works
returns-in-Some-unpack_index-clause-works c = lost_works _ _ _ _ _ _ c.step_claim-word.ensures.met (λ e. let word = c.in-Some-unpack_index.ensures.word in omega arith)

pub returns-in-Some-unpack_index-clause-lost : goal.returns-in-Some-unpack_index-clause-lost
returns-in-Some-unpack_index-clause-lost c = let word = c.in-Some-unpack_index.ensures.word in let some : c.step_claim-word.result ≢ 0 = (λ e. omega arith) in (
  (let few = lost_few _ _ _ _ _ _ c.step_claim-word.ensures.met some in let e : record_count c.args.seat.now.view.limits ≡ record_count c.args.store.now.layout.limits = ap record_count c.requires.seat.limits in omega arith),
  subst (Shows (knows c.step_claim-word.new.seat.view c.args.s) c.args.position) (let e : c.step_claim-word.result - 1 ≡ c.in-Some-unpack_index.other = omega arith in e) (lost_shows _ _ _ _ _ _ c.step_claim-word.ensures.met some),
  lost_placing _ _ _ _ _ _ c.step_claim-word.ensures.met some,
)

pub returns-in-Some-unpack_index-clause-taken : goal.returns-in-Some-unpack_index-clause-taken
returns-in-Some-unpack_index-clause-taken c = lost_taken _ _ _ _ _ _ c.step_claim-word.ensures.met (λ e. let word = c.in-Some-unpack_index.ensures.word in omega arith)
