-- A session that asks for a status only looks.
use Rattle.std.proofs.Common.{◌≡◌, ⊎_elim, ℕ, ◌+◌, List, Bool, true, false, sym, subst, ap, ◌∙◌, inl, inr, slice_index_or}
use Rattle.lst_layout.specs.declared.place.Place.TheVariants.{StateWord, ClockWord}
use Rattle.lst_layout.specs.Addresses.{IsWithin}
use Rattle.lst_rule.specs.declared.view.View.{View}
use Rattle.lst_rule.specs.Rule.{hosts}
use Rattle.lst_rule.specs.declared.status.Status.{Status}
use Rattle.lst_rule.specs.declared.status.Status.TheVariants.{Empty, Unfinished, Closed, Committed}
use Rattle.lst_rule.specs.Statuses.{Reads, SaysAt, Says}
use Rattle.lst_rule.specs.Watching.{Watched}
use Rattle.lst_rule.proofs.Watching.{looks_watch, watches_join}

module _ (v w : View) (s j n : ℕ) (hosted : hosts v s ≡ true) (place : IsWithin v.limits (StateWord j n)) where
  state_watched : (u : View) (x : ℕ) → SaysAt v u s j n x → Watched v u s
  state_watched u x k = looks_watch v u s x (StateWord j n) hosted place tt k.load.met

  clock_watched : (u : View) (x : ℕ) → SaysAt v u s j n x → Reads u w s → Watched v w s
  clock_watched u x k r = watches_join v u w s (state_watched u x k)
      (looks_watch u w s r.clock ClockWord (ap (λ (bs : List Bool). slice_index_or bs s false) k.view.hosted ∙ hosted) tt tt r.load.looked.met)

  pub status_watched : (status : Status) → Says v w s j n status → Watched v w s
  status_watched Empty h = absurd h
  status_watched Closed h = state_watched w 1 h
  status_watched (Committed time) h = ⊎_elim
      (λ (same : w ≡ h.between). subst (λ (z : View). Watched v z s) (sym same) (state_watched h.between (time + 1) h.state))
      (λ (r : Reads h.between w s). clock_watched h.between (time + 1) h.state r)
      h.says.3
  status_watched (Unfinished a b) (e, f, inl k) = state_watched w 0 k
  status_watched (Unfinished a b) (e, f, inr (x, h)) = clock_watched h.between x h.state h.says.3
