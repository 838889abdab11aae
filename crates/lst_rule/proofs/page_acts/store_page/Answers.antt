use Rattle.std.proofs.Common.{◌≡◌, ℕ, true, refl, ap, sym, subst, ◌∙◌, arith}
use Rattle.lst_pages.specs.Known.{PageEnabled}
use Rattle.lst_pages.specs.Numbers as page_numbers
use Rattle.lst_pages.specs.declared.numbers.MergerNumbers.{MergerNumbers}
use Rattle.lst_pages.specs.Step.{place_of}
use Rattle.lst_core_state.specs.declared.numbers.Numbers.{Numbers}
use Rattle.lst_rule.specs.declared.actions.Action.TheVariants.{Page}
use Rattle.lst_rule.specs.declared.view.View.{View}
use Rattle.lst_rule.specs.Actions.{stock_numbers}
use Rattle.lst_rule.specs.Rule.{knows, hosts}
use Rattle.lst_rule.specs.Learned.{PageMade}
use Rattle.lst_rule.specs.Seats.{told}
use Rattle.lst_rule.proofs.Telling.{reads}
use Rattle.lst_rule.proofs.Paging.{page_stored, stepper_low}
use Rattle.lst_rule.proofs.Acting.{Asks, acts_ready, acts_told, acts_page_made, acts_keep, still_seat}
use Rattle.lst_rule.proofs.page_acts.store_page.Goals as goal
use Rattle.lst_rule.proofs.page_acts.store_page.Goals.{After-target-word}

asked : (c : After-target-word) (u : View) → u ≡ c.args.seat.now.view → Asks c.args.store.now.layout.limits (told c.args.seat.now.view c.args.s) (Page c.args.event) c.args.s c.target-word.result u c.args.seat.now.view
asked c u same = record {
  same = same;
  limits = c.requires.seat.limits;
  numbers = refl;
  session = c.requires.actor;
  hosted = subst (λ (k : ℕ). hosts c.args.seat.now.view k ≡ true) c.requires.actor c.requires.host;
  within = c.requires.within;
  ok = subst (λ (k : ℕ). PageEnabled c.args.seat.now.view.limits (knows c.args.seat.now.view k).pages c.args.event) c.requires.actor c.requires.enabled;
  stands = c.requires.stands;
  at = c.target-word.ensures.address;
}

-- what is written, by the numbers that the view has
stock_is : (c : After-target-word) → c.stock-now.result ≡ stock_numbers (told c.args.seat.now.view c.args.s)
stock_is c = c.stock-now.ensures.is ∙ ap (λ (k : ℕ). stock_numbers (told c.args.seat.now.view k)) c.requires.actor

pub store_word-requires-clause-ready : goal.store_word-requires-clause-ready
store_word-requires-clause-ready c = acts_ready _ _ _ _ _ _ _ (asked (goal.at.store_word-requires-clause-ready c).After-target-word c.seat.inside.place.me.0 (ap (λ z. z.view) c.seat.view_is))
    (λ _. c.written-new.result) (λ words known merger may x. c.written-new.ensures ∙ (ap (λ (n : MergerNumbers). page_numbers.written_of n c.args.event 0) (stock_is (goal.at.store_word-requires-clause-ready c).After-target-word)
    ∙ page_stored (stock_numbers (told c.args.seat.now.view c.args.s)) c.args.event c.requires.kind 0 x))

pub index_mut-requires : goal.index_mut-requires
index_mut-requires c = let low = stepper_low _ _ c.seat.inside.numbers.items c.args.s c.args.event (ap (λ z. z.view) c.seat.view_is) c.seat.invariant.3 c.requires.actor c.requires.host in let e = c.seat.inside.numbers.ok.0 in omega arith

pub advance_pages-requires : goal.advance_pages-requires
advance_pages-requires c = let n : c.index_mut.result.now ≡ told c.args.seat.now.view c.args.s = reads _ _ c.seat.inside.numbers.items c.args.s c.index_mut.result.now (ap (λ z. z.view) c.seat.view_is) c.seat.invariant.3 c.index_mut.ensures.value (subst (λ (k : ℕ). hosts c.args.seat.now.view k ≡ true) c.requires.actor c.requires.host) in
    subst (λ (m : Numbers). page_numbers.IsWritable (stock_numbers m) c.args.event) (sym n) (subst (λ (m : MergerNumbers). page_numbers.IsWritable m c.args.event) (stock_is (goal.at.advance_pages-requires c).After-target-word) c.stock-now.ensures.fits)

pub invariant_of-seat : goal.invariant_of-seat
invariant_of-seat c = acts_keep _ _ _ _ _ _ _ (asked (goal.at.invariant_of-seat c).After-target-word c.seat.inside.place.me.0 (ap (λ z. z.view) c.seat.view_is)) c.seat.inside.numbers.items c.seat.invariant.3 _ _ c.seat.invariant.1 c.seat.invariant.2 (c.store_word.ensures.table.2 ∙ c.seat.invariant.0)
    c.written-new.result _ c.store_word.new.seat.me.0 (c.store_word.ensures.told, refl) c.index_mut.result.now c.advance_pages.new.now c.index_mut.ensures.value c.advance_pages.ensures

pub returns-clause-seat : goal.returns-clause-seat
returns-clause-seat c = still_seat _ _ _ (Page c.args.event) _ c.written-new.result c.requires.seat (c.store_word.ensures.table.0 ∙ ap (λ z. z.table) c.seat.view_is)
    (acts_told _ _ _ _ _ _ _ (asked (goal.at.returns-clause-seat c).After-target-word c.seat.inside.place.me.0 (ap (λ z. z.view) c.seat.view_is)) c.written-new.result c.store_word.new.seat.me.0 c.store_word.ensures.told)

pub returns-clause-made : goal.returns-clause-made
returns-clause-made c = subst (λ (k : ℕ). PageMade c.args.seat.now.view c.store_word.new.seat.me.0 c.args.event (place_of c.args.event) (page_numbers.written_of (stock_numbers (told c.args.seat.now.view k)) c.args.event 0)) (sym c.requires.actor)
    (acts_page_made _ _ _ _ _ _ _ (asked (goal.at.returns-clause-made c).After-target-word c.seat.inside.place.me.0 (ap (λ z. z.view) c.seat.view_is)) c.written-new.result c.store_word.new.seat.me.0 c.store_word.ensures.told
    (c.written-new.ensures ∙ ap (λ (n : MergerNumbers). page_numbers.written_of n c.args.event 0) (stock_is (goal.at.returns-clause-made c).After-target-word)))
