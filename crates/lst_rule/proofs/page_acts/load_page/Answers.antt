use Rattle.std.proofs.Common.{◌≡◌, refl, ap, ◌∙◌, arith}
use Rattle.lst_pages.specs.Known.{stepper}
use Rattle.lst_rule.specs.declared.actions.Action.TheVariants.{Page}
use Rattle.lst_rule.specs.declared.view.View.{View}
use Rattle.lst_rule.specs.Actions.{stock_numbers}
use Rattle.lst_rule.specs.Seats.{told}
use Rattle.lst_rule.proofs.Paging.{page_loaded, page_still, load_stands}
use Rattle.lst_rule.proofs.Acting.{Asks, acts_ready, acts_told, acts_page_met, acts_still, still_seat}
use Rattle.lst_rule.proofs.page_acts.load_page.Goals as goal
use Rattle.lst_rule.proofs.page_acts.load_page.Goals.{Start}

asked : (c : Start) (u : View) → u ≡ c.args.seat.now.view → Asks c.args.store.now.layout.limits (told c.args.seat.now.view (stepper c.args.seat.now.view.limits c.args.event)) (Page c.args.event) (stepper c.args.seat.now.view.limits c.args.event) c.args.address u c.args.seat.now.view
asked c u same = record {
  same = same;
  limits = c.requires.seat.limits;
  numbers = refl;
  session = refl;
  hosted = c.requires.host;
  within = c.requires.within;
  ok = c.requires.enabled;
  stands = load_stands c.args.seat.now.view c.args.event c.requires.kind;
  at = c.requires.address;
}

pub load_word-requires-clause-table : goal.load_word-requires-clause-table
load_word-requires-clause-table c = (ap (λ z. z.table) c.seat.view_is ∙ c.requires.seat.table, (let a = c.requires.below in let b = c.args.store.now.wide in omega arith))

pub load_word-requires-clause-ready : goal.load_word-requires-clause-ready
load_word-requires-clause-ready c = acts_ready _ _ _ _ _ _ _ (asked (goal.at.load_word-requires-clause-ready c).Start c.seat.inside.place.me.0 (ap (λ z. z.view) c.seat.view_is))
    (λ x. x) (λ words known merger may x. page_loaded (stock_numbers (told c.args.seat.now.view (stepper c.args.seat.now.view.limits c.args.event))) c.args.event c.requires.kind x)

pub invariant_of-seat : goal.invariant_of-seat
invariant_of-seat c = acts_still _ _ _ _ _ _ _ (asked (goal.at.invariant_of-seat c).Start c.seat.inside.place.me.0 (ap (λ z. z.view) c.seat.view_is)) c.seat.inside.numbers.items c.seat.invariant.3 _ _ c.seat.invariant.1 c.seat.invariant.2 (c.load_word.ensures.table.2 ∙ c.seat.invariant.0)
    c.load_word.result c.load_word.result c.load_word.new.seat.me.0 c.load_word.ensures.told (page_still c.args.event c.requires.kind (told c.args.seat.now.view (stepper c.args.seat.now.view.limits c.args.event)))

pub returns-clause-seat : goal.returns-clause-seat
returns-clause-seat c = still_seat _ _ _ (Page c.args.event) _ c.load_word.result c.requires.seat (c.load_word.ensures.table.0 ∙ ap (λ z. z.table) c.seat.view_is)
    (acts_told _ _ _ _ _ _ _ (asked (goal.at.returns-clause-seat c).Start c.seat.inside.place.me.0 (ap (λ z. z.view) c.seat.view_is)) c.load_word.result c.load_word.new.seat.me.0 c.load_word.ensures.told.0)

pub returns-clause-met : goal.returns-clause-met
returns-clause-met c = acts_page_met _ _ _ _ _ _ _ (asked (goal.at.returns-clause-met c).Start c.seat.inside.place.me.0 (ap (λ z. z.view) c.seat.view_is)) c.load_word.result c.load_word.new.seat.me.0 c.load_word.ensures.told
