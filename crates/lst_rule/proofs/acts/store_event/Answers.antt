use Rattle.std.proofs.Common.{ℕ, ◌≡◌, refl, ap, sym, ◌∙◌, subst, ◌<◌}
use Rattle.lst_layout.specs.declared.limits.Limits.{Limits}
use Rattle.lst_layout.specs.Addresses as addresses
use Rattle.lst_core_state.specs.Step.{IsWithin}
use Rattle.lst_core_state.specs.Numbers.{place_for}
use Rattle.lst_core_state.specs.Numbers.{written_of}
use Rattle.lst_rule.specs.declared.actions.Action.TheVariants.{Core}
use Rattle.lst_rule.specs.declared.view.View.{View}
use Rattle.lst_rule.proofs.Doing.{stored, stored_after}
use Rattle.lst_rule.proofs.Acting.{Asks, acts_ready, acts_told, acts_made, acts_keep, still_seat}
use Rattle.lst_layout.specs.Limits.{IsValid}
use Rattle.lst_core_state.specs.Bounds.{IsWritable}
use Rattle.lst_rule.proofs.Telling.{reads_step}
use Rattle.lst_rule.proofs.acts.store_event.Goals as goal
use Rattle.lst_rule.proofs.acts.store_event.Goals.{After-target-word}

asked : (c : After-target-word) (u : View) → u ≡ c.args.seat.now.view → Asks c.args.store.now.layout.limits c.numbers-now.result.now (Core c.args.event) c.args.s c.target-word.result u c.args.seat.now.view
asked c u same = record { same = same; limits = c.requires.seat.limits; numbers = c.numbers-now.ensures.is; session = c.requires.session; hosted = c.requires.host; within = c.requires.within; ok = c.requires.enabled; stands = c.requires.stands; at = c.target-word.ensures.address }

pub numbers-now-requires-clause-host : goal.numbers-now-requires-clause-host
numbers-now-requires-clause-host c = c.requires.host

pub numbers-now-requires-clause-own : goal.numbers-now-requires-clause-own
numbers-now-requires-clause-own c = c.requires.own

pub numbers-now-requires-clause-session : goal.numbers-now-requires-clause-session
numbers-now-requires-clause-session c = c.requires.session

pub numbers-now-requires-clause-within : goal.numbers-now-requires-clause-within
numbers-now-requires-clause-within c = c.requires.within

pub numbers-now-requires-clause-enabled : goal.numbers-now-requires-clause-enabled
numbers-now-requires-clause-enabled c = c.requires.enabled

pub target-word-requires-clause-within : goal.target-word-requires-clause-within
target-word-requires-clause-within c = subst (λ (l : Limits). IsWithin l c.args.event) c.requires.seat.limits c.requires.within

pub target-word-requires-clause-place : goal.target-word-requires-clause-place
target-word-requires-clause-place c = subst (λ (l : Limits). addresses.IsWithin l (place_for l c.numbers-now.result.now c.args.event)) c.requires.seat.limits c.numbers-now.ensures.place

pub advance-requires-clause-within : goal.advance-requires-clause-within
advance-requires-clause-within c = subst (λ (l : Limits). IsWithin l c.args.event) c.requires.seat.limits c.requires.within

pub store_word-requires-clause-ready : goal.store_word-requires-clause-ready
store_word-requires-clause-ready c = acts_ready _ _ _ _ _ _ _ (asked (goal.at.store_word-requires-clause-ready c).After-target-word c.seat.inside.place.me.0 (ap (λ z. z.view) c.seat.view_is))
    (λ _. c.written-new.result) (λ words known merger a x. c.written-new.ensures ∙ (stored c.args.store.now.layout.limits c.numbers-now.result.now c.args.time c.args.event c.requires.kind 0 x ∙ ap (λ (t : ℕ). written_of c.args.store.now.layout.limits c.numbers-now.result.now t c.args.event x) (sym (c.requires.times words known merger a))))

pub invariant_of-seat : goal.invariant_of-seat
invariant_of-seat c = acts_keep _ _ _ _ _ _ _ (asked (goal.at.invariant_of-seat c).After-target-word c.seat.inside.place.me.0 (ap (λ z. z.view) c.seat.view_is)) c.seat.inside.numbers.items c.seat.invariant.3 _ _ c.seat.invariant.1 c.seat.invariant.2 (c.store_word.ensures.table.2 ∙ c.seat.invariant.0)
    c.written-new.result _ c.store_word.new.seat.me.0 (c.store_word.ensures.told, refl) c.index_mut.result.now c.advance.new.now c.index_mut.ensures.value (c.advance.ensures ∙ stored_after c.args.store.now.layout.limits c.args.event c.requires.kind c.index_mut.result.now 0 _)

pub returns-clause-seat : goal.returns-clause-seat
returns-clause-seat c = still_seat _ _ _ (Core c.args.event) _ c.written-new.result c.requires.seat (c.store_word.ensures.table.0 ∙ ap (λ z. z.table) c.seat.view_is)
    (acts_told _ _ _ _ _ _ _ (asked (goal.at.returns-clause-seat c).After-target-word c.seat.inside.place.me.0 (ap (λ z. z.view) c.seat.view_is)) c.written-new.result c.store_word.new.seat.me.0 c.store_word.ensures.told)

pub returns-clause-made : goal.returns-clause-made
returns-clause-made c = acts_made _ _ _ _ _ _ _ (asked (goal.at.returns-clause-made c).After-target-word c.seat.inside.place.me.0 (ap (λ z. z.view) c.seat.view_is)) c.args.time c.written-new.result c.store_word.new.seat.me.0 c.store_word.ensures.told
    c.written-new.ensures

pub advance-requires-clause-writable : goal.advance-requires-clause-writable
advance-requires-clause-writable c = subst (λ (l : Limits). IsWritable l c.index_mut.result.now c.args.event) c.requires.seat.limits
    (reads_step _ _ c.seat.inside.numbers.items c.args.s c.index_mut.result.now c.args.event (ap (λ z. z.view) c.seat.view_is) c.seat.invariant.3 c.index_mut.ensures.value c.requires.host c.requires.own c.requires.session c.requires.within c.requires.enabled).writable

pub store_word-requires-clause-table : goal.store_word-requires-clause-table
store_word-requires-clause-table c = (ap (λ z. z.table) c.seat.view_is ∙ c.requires.seat.table, subst (λ (n : ℕ). c.target-word.result < n) (sym c.args.store.now.wide) c.target-word.ensures.below)

pub written-new-requires-clause-sized : goal.written-new-requires-clause-sized
written-new-requires-clause-sized c = subst (λ (l : Limits). IsValid l) c.requires.seat.limits c.numbers-now.ensures.valid

pub written-new-requires-clause-time : goal.written-new-requires-clause-time
written-new-requires-clause-time c = c.requires.time

pub written-new-requires-clause-within : goal.written-new-requires-clause-within
written-new-requires-clause-within c = subst (λ (l : Limits). IsWithin l c.args.event) c.requires.seat.limits c.requires.within

pub written-new-requires-clause-writable : goal.written-new-requires-clause-writable
written-new-requires-clause-writable c = subst (λ (l : Limits). IsWritable l c.numbers-now.result.now c.args.event) c.requires.seat.limits c.numbers-now.ensures.writable
