use Rattle.std.proofs.Common.{◌≡◌, ℕ, ◌+◌, ◌<◌, refl, sym, subst, ap, ◌∙◌, arith}
use Rattle.lst_pages.specs.declared.events.PageEvent.{PageEvent}
use Rattle.lst_pages.specs.declared.events.PageEvent.TheVariants.{StoreFrame}
use Rattle.lst_rule.specs.declared.actions.Action.TheVariants.{Page}
use Rattle.lst_rule.specs.declared.view.View.{View}
use Rattle.lst_rule.specs.Seats.{told}
use Rattle.lst_rule.proofs.Acting.{Asks, acts_ready, acts_told, acts_page_made, acts_still, still_seat}
use Rattle.lst_rule.proofs.Wholes.{word_low, word_here, numbers_stay}
use Rattle.lst_rule.proofs.frames.store_frame_from.Goals as goal
use Rattle.lst_rule.proofs.frames.store_frame_from.Goals.{After-later-word}

abbrev step : After-later-word → PageEvent
step c = StoreFrame c.args.frame c.args.place c.args.value

asked : (c : After-later-word) (u : View) → u ≡ c.args.seat.now.view → Asks c.args.store.now.layout.limits (told c.args.seat.now.view c.args.seat.now.view.limits.sessions) (Page (step c)) c.args.seat.now.view.limits.sessions c.later-word.result u c.args.seat.now.view
asked c u same = record {
  same = same;
  limits = c.requires.seat.limits;
  numbers = refl;
  session = refl;
  hosted = c.requires.host;
  within = (c.requires.frame, c.requires.place);
  ok = c.requires.enabled;
  stands = λ words known merger may. tt;
  at = c.later-word.ensures ∙ word_here c.args.store.now c.args.seat.now c.requires.seat c.args.frame c.args.place c.requires.frame c.requires.place c.args.first c.requires.first;
}

pub later-word-requires : goal.later-word-requires
later-word-requires c = subst (λ (k : ℕ). c.args.first + c.args.place < k) (sym c.args.store.now.layout.counted) (word_low c.args.store.now c.args.seat.now c.requires.seat c.args.frame c.args.place c.requires.frame c.requires.place c.args.first c.requires.first)

pub store_word-requires-clause-table : goal.store_word-requires-clause-table
store_word-requires-clause-table c = (
  ap (λ z. z.table) c.seat.view_is ∙ c.requires.seat.table,
  (let e = c.later-word.ensures in let a = word_low c.args.store.now c.args.seat.now c.requires.seat c.args.frame c.args.place c.requires.frame c.requires.place c.args.first c.requires.first in let b = c.args.store.now.wide in omega arith),
)

pub store_word-requires-clause-ready : goal.store_word-requires-clause-ready
store_word-requires-clause-ready c = acts_ready _ _ _ _ _ _ _ (asked (goal.at.store_word-requires-clause-ready c).After-later-word c.seat.inside.place.me.0 (ap (λ z. z.view) c.seat.view_is))
    (λ _. c.args.value) (λ words known merger may x. refl)

pub invariant_of-seat : goal.invariant_of-seat
invariant_of-seat c = acts_still _ _ _ _ _ _ _ (asked (goal.at.invariant_of-seat c).After-later-word c.seat.inside.place.me.0 (ap (λ z. z.view) c.seat.view_is)) c.seat.inside.numbers.items c.seat.invariant.3 _ _ c.seat.invariant.1 c.seat.invariant.2 (c.store_word.ensures.table.2 ∙ c.seat.invariant.0)
    c.args.value _ c.store_word.new.seat.me.0 (c.store_word.ensures.told, refl) (numbers_stay (told c.args.seat.now.view c.args.seat.now.view.limits.sessions) c.args.frame c.args.place c.args.value c.requires.built)

pub returns-clause-seat : goal.returns-clause-seat
returns-clause-seat c = still_seat _ _ _ (Page (step (goal.at.returns-clause-seat c).After-later-word)) _ c.args.value c.requires.seat (c.store_word.ensures.table.0 ∙ ap (λ z. z.table) c.seat.view_is)
    (acts_told _ _ _ _ _ _ _ (asked (goal.at.returns-clause-seat c).After-later-word c.seat.inside.place.me.0 (ap (λ z. z.view) c.seat.view_is)) c.args.value c.store_word.new.seat.me.0 c.store_word.ensures.told)

pub returns-clause-stored : goal.returns-clause-stored
returns-clause-stored c = let made = acts_page_made _ _ _ _ _ _ _ (asked (goal.at.returns-clause-stored c).After-later-word c.seat.inside.place.me.0 (ap (λ z. z.view) c.seat.view_is)) c.args.value c.store_word.new.seat.me.0 c.store_word.ensures.told refl in record { view = made.view; made = made }
