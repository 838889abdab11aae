-- What the words of a version say of how it stands.
use Rattle.std.proofs.Common.{◌≡◌, ℕ, ◌+◌, ◌*◌, ◌%◌, ◌^◌, ◌<◌, ◌≤◌, List, Bool, true, false, sym, subst, ap, ◌∙◌, arith, refl, slice_index_or}
use Rattle.lst_layout.specs.declared.limits.Limits.{Limits}
use Rattle.lst_layout.specs.declared.place.Place.TheVariants.{CellWord}
use Rattle.lst_layout.specs.Addresses.{IsWithin}
use Rattle.lst_layout.specs.Limits.{IsValid}
use Rattle.lst_bits.specs.Starts.{IsStartWord}
use Rattle.lst_core_state.specs.State.{name_of}
use Rattle.lst_rule.specs.declared.view.View.{View}
use Rattle.lst_rule.specs.Rule.{hosts}
use Rattle.lst_rule.specs.Stores.{Looked}
use Rattle.lst_rule.specs.Statuses.{Asked}
use Rattle.lst_rule.specs.declared.status.Status.{Status}
use Rattle.lst_rule.specs.declared.status.Status.TheVariants as status
use Rattle.lst_rule.specs.declared.resolutions.Resolution.{Resolution}
use Rattle.lst_rule.specs.declared.resolutions.Resolution.TheVariants.{Empty, Stamped, Own, Closed, Committed, Unfinished}
use Rattle.lst_rule.specs.Resolutions.{NamedBy, IsLast, AsksOther, AnswersAs, Resolved}
use Rattle.lst_rule.specs.TailLoads.{LoadsTail}
use Rattle.lst_rule.specs.Laws.{TailFound}
use Rattle.lst_rule.specs.Watching.{Watched}
use Rattle.lst_rule.proofs.Finding.{tails_are_found}
use Rattle.lst_rule.proofs.Watching.{looks_watch, watches_join}
use Rattle.lst_rule.proofs.AskingWatched.{status_watched}
use Rattle.lst_rule.proofs.Finds.{loads_cell, loads_join, loads_status}

-- ---- a start word that was loaded

module _ (l : Limits) (v b : View) (s t x : ℕ) (valid : IsValid l) (is : v.limits ≡ l) (hosted : hosts v s ≡ true) (inside : IsWithin v.limits (CellWord t 0)) (looked : Looked v b s (CellWord t 0) x) where
  found : 0 < x → TailFound b s t x
  found some = tails_are_found v b s t x hosted inside.0 inside.1 looked.met some

  limits : b.limits ≡ l
  limits = looked.view.limits ∙ is

  pub start_is : x < 2 ^ 64 → IsStartWord x
  start_is few = (few, odd)
    where
      odd : x % 2 ≡ 1 → x < 2 ^ 37
      odd o = let f = found (omega arith) in let named = f.start.named o in let number = f.is.number in let txns : b.limits.txns ≤ 65535 = subst (λ (k : Limits). k.txns ≤ 65535) (sym limits) valid.txns.1 in omega arith

  pub named_by : (j n : ℕ) → 1 + 2 * (16 * n + j) ≡ x → j < 16 → NamedBy v b s t j n
  named_by j n word low = let f = found (omega arith) in let odd : x % 2 ≡ 1 = omega arith in let named = f.start.named odd in
      let session = f.is.session in let begun = f.is.begun in let number = f.is.number in record {
        looked = subst (λ (y : ℕ). Looked v b s (CellWord t 0) y) (sym word) looked;
        place = (omega arith, omega arith, omega arith);
      }

-- ---- by the status of its transaction

pub other_resolved : (v b w : View) (s t j n : ℕ) (r : Resolution) → NamedBy v b s t j n → (IsLast b s j n → ⊥) → Asked b w s → AnswersAs b w s j n r → Resolved v w s t r
other_resolved v b w s t j n Empty named other asked h = absurd h
other_resolved v b w s t j n (Stamped time) named other asked h = absurd h
other_resolved v b w s t j n Own named other asked h = absurd h
other_resolved v b w s t j n Closed named other asked h = (j, n, record { between = b; named = named; other = other; asked = asked; answers = h })
other_resolved v b w s t j n (Committed time) named other asked h = (j, n, record { between = b; named = named; other = other; asked = asked; answers = h })
other_resolved v b w s t j n (Unfinished a m) named other asked h = subst (λ (i : ℕ). AsksOther v w s t i m (status.Unfinished i m)) (sym h.0)
    (subst (λ (k : ℕ). AsksOther v w s t j k (status.Unfinished j k)) (sym h.1) (record { between = b; named = named; other = other; asked = asked; answers = h.2 }))

-- ---- only looks

module _ (v w : View) (s t : ℕ) (hosted : hosts v s ≡ true) (inside : IsWithin v.limits (CellWord t 0)) where
  pub start_watched : (b : View) (x : ℕ) → Looked v b s (CellWord t 0) x → Watched v b s
  start_watched b x looked = looks_watch v b s x (CellWord t 0) hosted inside tt looked.met

  pub hosted_then : (b : View) (x : ℕ) → Looked v b s (CellWord t 0) x → hosts b s ≡ true
  hosted_then b x looked = ap (λ (bs : List Bool). slice_index_or bs s false) looked.view.hosted ∙ hosted

  pub other_watched : (j n : ℕ) (status : Status) → AsksOther v w s t j n status → Watched v w s
  other_watched j n status q = watches_join v q.between w s (start_watched q.between (1 + 2 * name_of j n) q.named.looked) (status_watched q.between w s j n (hosted_then q.between (1 + 2 * name_of j n) q.named.looked) q.named.place status q.answers.says)

  pub resolved_watched : (r : Resolution) → Resolved v w s t r → Watched v w s
  resolved_watched Empty h = start_watched w 0 h
  resolved_watched (Stamped time) h = start_watched w (2 * time) h.2
  resolved_watched Own h = start_watched w (1 + 2 * name_of h.0 h.1) h.2.looked
  resolved_watched Closed h = other_watched h.0 h.1 status.Closed h.2
  resolved_watched (Committed time) h = other_watched h.0 h.1 (status.Committed time) h.2
  resolved_watched (Unfinished j n) h = other_watched j n (status.Unfinished j n) h

-- words of this tail record alone are loaded
module _ (v w : View) (s t : ℕ) where
  other_loads : (j n : ℕ) (status : Status) → AsksOther v w s t j n status → LoadsTail v w s t
  other_loads j n status q = loads_join (λ y. y ≡ t) v q.between w s (loads_cell v q.between s t t 0 (1 + 2 * name_of j n) refl q.named.looked) (loads_status (λ y. y ≡ t) q.between w s j n status q.answers.says)

  pub resolved_loads : (r : Resolution) → Resolved v w s t r → LoadsTail v w s t
  resolved_loads Empty h = loads_cell v w s t t 0 0 refl h
  resolved_loads (Stamped time) h = loads_cell v w s t t 0 (2 * time) refl h.2
  resolved_loads Own h = loads_cell v w s t t 0 (1 + 2 * name_of h.0 h.1) refl h.2.looked
  resolved_loads Closed h = other_loads h.0 h.1 status.Closed h.2
  resolved_loads (Committed time) h = other_loads h.0 h.1 (status.Committed time) h.2
  resolved_loads (Unfinished j n) h = other_loads j n (status.Unfinished j n) h
