use Rattle.std.proofs.Common.{◌≡◌, ◌+◌, ◌%◌, ◌^◌, ap, ◌∙◌, subst, ℕ, ◌<◌, sym}
use Rattle.lst_layout.specs.declared.limits.Limits.{Limits}
use Rattle.lst_layout.specs.Addresses as addresses
use Rattle.lst_core_state.specs.Step.{IsWithin}
use Rattle.lst_core_state.specs.Numbers.{place_for}
use Rattle.lst_layout.specs.Words.{shown}
use Rattle.lst_core_state.specs.Targets.{time_for}
use Rattle.lst_rule.specs.declared.actions.Action.TheVariants.{Core}
use Rattle.lst_rule.specs.declared.view.View.{View}
use Rattle.lst_rule.proofs.Doing.{drawn}
use Rattle.lst_rule.proofs.Acting.{Asks, acts_ready, acts_told, acts_met, acts_keep, still_seat}
use Rattle.lst_core_state.specs.Bounds.{IsWritable}
use Rattle.lst_rule.proofs.Telling.{reads_step}
use Rattle.lst_rule.proofs.acts.draw_event.Goals as goal
use Rattle.lst_rule.proofs.acts.draw_event.Goals.{After-target-word}

asked : (c : After-target-word) (u : View) → u ≡ c.args.seat.now.view → Asks c.args.store.now.layout.limits c.numbers-now.result.now (Core c.args.event) c.args.s c.target-word.result u c.args.seat.now.view
asked c u same = record { same = same; limits = c.requires.seat.limits; numbers = c.numbers-now.ensures.is; session = c.requires.session; hosted = c.requires.host; within = c.requires.within; ok = c.requires.enabled; stands = c.requires.stands; at = c.target-word.ensures.address }

pub numbers-now-requires-clause-host : goal.numbers-now-requires-clause-host
numbers-now-requires-clause-host c = c.requires.host

pub numbers-now-requires-clause-own : goal.numbers-now-requires-clause-own
numbers-now-requires-clause-own c = c.requires.own

pub numbers-now-requires-clause-session : goal.numbers-now-requires-clause-session
numbers-now-requires-clause-session c = c.requires.session

pub numbers-now-requires-clause-within : goal.numbers-now-requires-clause-within
numbers-now-requires-clause-within c = c.requires.within

pub numbers-now-requires-clause-enabled : goal.numbers-now-requires-clause-enabled
numbers-now-requires-clause-enabled c = c.requires.enabled

pub target-word-requires-clause-within : goal.target-word-requires-clause-within
target-word-requires-clause-within c = subst (λ (l : Limits). IsWithin l c.args.event) c.requires.seat.limits c.requires.within

pub target-word-requires-clause-place : goal.target-word-requires-clause-place
target-word-requires-clause-place c = subst (λ (l : Limits). addresses.IsWithin l (place_for l c.numbers-now.result.now c.args.event)) c.requires.seat.limits c.numbers-now.ensures.place

pub advance-requires-clause-within : goal.advance-requires-clause-within
advance-requires-clause-within c = subst (λ (l : Limits). IsWithin l c.args.event) c.requires.seat.limits c.requires.within

pub add_one-found-requires-clause-ready : goal.add_one-found-requires-clause-ready
add_one-found-requires-clause-ready c = acts_ready _ _ _ _ _ _ _ (asked (goal.at.add_one-found-requires-clause-ready c).After-target-word c.seat.inside.place.me.0 (ap (λ z. z.view) c.seat.view_is))
    (λ x. (x + 1) % 2 ^ 64) (λ words known merger a x. drawn c.args.store.now.layout.limits c.numbers-now.result.now (time_for c.args.seat.now.view.limits (shown c.args.seat.now.view.limits words) c.args.event) c.args.event c.requires.kind x)

pub invariant_of-seat : goal.invariant_of-seat
invariant_of-seat c = acts_keep _ _ _ _ _ _ _ (asked (goal.at.invariant_of-seat c).After-target-word c.seat.inside.place.me.0 (ap (λ z. z.view) c.seat.view_is)) c.seat.inside.numbers.items c.seat.invariant.3 _ _ c.seat.invariant.1 c.seat.invariant.2 (c.add_one-found.ensures.table.2 ∙ c.seat.invariant.0)
    ((c.add_one-found.result + 1) % 2 ^ 64) c.add_one-found.result c.add_one-found.new.seat.me.0 c.add_one-found.ensures.told c.index_mut.result.now c.advance.new.now c.index_mut.ensures.value c.advance.ensures

pub returns-clause-seat : goal.returns-clause-seat
returns-clause-seat c = still_seat _ _ _ (Core c.args.event) _ ((c.add_one-found.result + 1) % 2 ^ 64) c.requires.seat (c.add_one-found.ensures.table.0 ∙ ap (λ z. z.table) c.seat.view_is)
    (acts_told _ _ _ _ _ _ _ (asked (goal.at.returns-clause-seat c).After-target-word c.seat.inside.place.me.0 (ap (λ z. z.view) c.seat.view_is)) ((c.add_one-found.result + 1) % 2 ^ 64) c.add_one-found.new.seat.me.0 c.add_one-found.ensures.told.0)

pub returns-clause-met : goal.returns-clause-met
returns-clause-met c = acts_met _ _ _ _ _ _ _ (asked (goal.at.returns-clause-met c).After-target-word c.seat.inside.place.me.0 (ap (λ z. z.view) c.seat.view_is)) ((c.add_one-found.result + 1) % 2 ^ 64) c.add_one-found.result c.add_one-found.new.seat.me.0 c.add_one-found.ensures.told
    (drawn c.args.store.now.layout.limits c.numbers-now.result.now 0 c.args.event c.requires.kind c.add_one-found.result)

pub advance-requires-clause-writable : goal.advance-requires-clause-writable
advance-requires-clause-writable c = subst (λ (l : Limits). IsWritable l c.index_mut.result.now c.args.event) c.requires.seat.limits
    (reads_step _ _ c.seat.inside.numbers.items c.args.s c.index_mut.result.now c.args.event (ap (λ z. z.view) c.seat.view_is) c.seat.invariant.3 c.index_mut.ensures.value c.requires.host c.requires.own c.requires.session c.requires.within c.requires.enabled).writable

pub add_one-found-requires-clause-table : goal.add_one-found-requires-clause-table
add_one-found-requires-clause-table c = (ap (λ z. z.table) c.seat.view_is ∙ c.requires.seat.table, subst (λ (n : ℕ). c.target-word.result < n) (sym c.args.store.now.wide) c.target-word.ensures.below)
