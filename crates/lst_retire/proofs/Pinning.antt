-- What the steps of a pin come to.
use Rattle.std.proofs.Common.{◌≡◌, ℕ, ◌+◌, List, Bool, true, false, sym, subst, ap, ◌∙◌, arith, get_or, slice_set}
use Rattle.std.specs.List.{Contains}
use Rattle.lst_layout.specs.declared.limits.Limits.{Limits}
use Rattle.lst_layout.specs.Addresses.{address}
use Rattle.lst_layout.specs.declared.place.Place.TheVariants.{EpochWord, PinWord}
use Rattle.lst_core_state.specs.declared.facts.Fact.TheVariants.{EpochAtLeast}
use Rattle.lst_pages.specs.declared.events.PageEvent.TheVariants as steps
use Rattle.lst_rule.specs.declared.view.View.{View}
use Rattle.lst_rule.specs.Rule.{knows, hosts}
use Rattle.lst_rule.specs.Learned.{Learns, PageCanStand, PageMade}
use Rattle.lst_rule.specs.PageSteps.{pinned_at}
use Rattle.lst_rule.specs.Stores.{Looked}
use Rattle.lst_rule.proofs.Learning.{learns_then}
use Rattle.lst_rule.proofs.Paging.{epoch_is, pin_stands}
use Rattle.lst_retire.specs.Pins.{epoch_loaded, Pins}

-- the epoch that was found may be pinned
pub pin_ready : (v u : View) (s x : ℕ) → hosts v s ≡ true → Looked v u s EpochWord x → Contains (knows u s).facts (EpochAtLeast x) → PageCanStand u (steps.Pin s x)
pin_ready v u s x hosted load has = pin_stands u s x x (ap (λ (hs : List Bool). get_or hs s false) load.view.hosted ∙ hosted) has (omega arith)

pub pins : (v u w : View) (s x : ℕ) → Looked v u s EpochWord x → Learns u w s (pinned_at u.limits (knows u s) x) → PageMade u w (steps.Pin s x) (PinWord s) (x + 1) → Pins v w s
pins v u w s x load h made = record {
  epoch = x;
  between = u;
  load = load;
  made = made;
  view = learns_then v u w s (epoch_loaded (knows v s) x) (λ k. pinned_at v.limits k x) loaded
      (subst (λ (l : Limits). Learns u w s (pinned_at l (knows u s) x)) loaded.limits h);
  own = λ hosted. sym load.met.found ∙ sym (epoch_is v load.met.made.told.words load.met.made.told.known load.met.made.told.merger load.met.made.told.allowed hosted);
  words = λ whole. made.words ∙ (λ i. slice_set (load.kept.words whole i) (address (loaded.limits i) (PinWord s)) (x + 1));
}
  where
    loaded : Learns v u s (epoch_loaded (knows v s) x)
    loaded = subst (λ (y : ℕ). Learns v u s (epoch_loaded (knows v s) y)) load.met.found load.view
