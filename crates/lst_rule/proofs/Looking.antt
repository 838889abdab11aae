-- A load of a seat, from what its caller knows.
use Rattle.std.proofs.Common.{◌≡◌, ℕ, ◌<◌, ◌≤◌, List, true, get_or, set, sym, refl, subst, ap, ◌∙◌, slice_index, length, arith}
use Rattle.lst_layout.specs.declared.limits.Limits.{Limits}
use Rattle.lst_layout.specs.declared.place.Place.{Place}
use Rattle.lst_layout.specs.Limits.{IsValid}
use Rattle.lst_layout.specs.Areas.{words_of}
use Rattle.lst_layout.specs.Addresses as layout
use Rattle.lst_layout.specs.Addresses.{address, place_of}
use Rattle.lst_layout.specs.Words.{shown}
use Rattle.lst_layout.proofs.Apart.{below}
use Rattle.lst_layout.proofs.Places.{addresses_are_read}
use Rattle.lst_core_state.specs.declared.events.Event.TheVariants.{Look}
use Rattle.lst_core_state.specs.Step.{known_after, look_at}
use Rattle.lst_core_state.specs.declared.numbers.Numbers.{Numbers}
use Rattle.lst_core_state.specs.Numbers.{numbers_of, numbers_look}
use Rattle.lst_rule.specs.declared.actions.Action.TheVariants.{Core}
use Rattle.lst_rule.specs.declared.view.View.{View}
use Rattle.lst_rule.specs.Rule.{knows, hosts, Ready, Told}
use Rattle.lst_rule.specs.Learned.{Learns}
use Rattle.lst_rule.proofs.Enabling.{becomes, ready_at}
use Rattle.lst_rule.proofs.Learning.{met, kept_by}
use Rattle.lst_rule.specs.declared.store.Store.{Store}
use Rattle.lst_rule.specs.Seats.{Sitting, told, Tells}
use Rattle.lst_rule.specs.Operations.{IsQuiet}
use Rattle.lst_rule.specs.Stores.{IsSeatOf, Looked}
use Rattle.lst_rule.proofs.Doing.{quiet}
use Rattle.lst_rule.proofs.Telling.{tells_after, tells_still, reads}

-- what the caller of a load knows: u is the seat's view, and the word a is that at the place p
pub record Loads (s a : ℕ) (p : Place) (u v : View) (numbers : List Numbers) : Type 0 where
  pub same : u ≡ v
  pub hosted : hosts v s ≡ true
  pub low : s ≤ v.limits.sessions
  pub place : layout.IsWithin v.limits p
  pub at : a ≡ address v.limits p
  pub tells : Tells u numbers

pub loads : (store : Store) (seat : Sitting) (s a : ℕ) (p : Place) (u : View) (numbers : List Numbers) → IsSeatOf store seat → u ≡ seat.view → hosts seat.view s ≡ true → layout.IsWithin seat.view.limits p → a ≡ address seat.view.limits p → Tells u numbers → Loads s a p u seat.view numbers
loads store seat s a p u numbers is same hosted place at tells = record { same = same; hosted = hosted; low = (let h = is.low s hosted in let e = ap (λ (l : Limits). l.sessions) is.limits in omega arith); place = place; at = at; tells = tells }

module _ (s a : ℕ) (p : Place) (u v : View) (numbers : List Numbers) (loads : Loads s a p u v numbers) where
  abbrev L : Limits
  L = v.limits

  abbrev i : ℕ
  i = address L p

  here : Tells v numbers
  here = subst (λ (z : View). Tells z numbers) loads.same loads.tells

  valid : IsValid L
  valid = here.possible.allowed.sound.sized

  back : place_of L i ≡ p
  back = (addresses_are_read L valid).back p loads.place

  pub word_low : a < words_of L
  word_low = subst (λ (k : ℕ). k < words_of L) (sym loads.at) (below L p loads.place)

  look_ready : Ready v (Core (Look s i)) i (λ x. x)
  look_ready = subst (λ (k : ℕ). Ready v (Core (Look s i)) k (λ x. x)) (ap (address L) back) (ready_at v (Core (Look s i)) (λ x. x) loads.hosted (loads.low, below L p loads.place) tt (λ words known merger q. tt) (λ words known merger q x. refl))

  pub loads_ready : Ready u (Core (Look s a)) a (λ x. x)
  loads_ready = subst (λ (z : View). Ready z (Core (Look s a)) a (λ x. x)) (sym loads.same) (subst (λ (k : ℕ). Ready v (Core (Look s k)) k (λ x. x)) (sym loads.at) look_ready)

  abbrev Finds : View → ℕ → View → ℕ → Type 0
  Finds z k w x = (t : Told (Core (Look s k)) k x z w) × (slice_index t.words k ≡ x)

  pub loads_found : (w : View) (x : ℕ) → Finds u a w x → Finds v i w x
  loads_found w x h = subst (λ (k : ℕ). Finds v k w x) loads.at (subst (λ (z : View). Finds z a w x) loads.same h)

  pub loads_looked : (w : View) (x : ℕ) → Finds u a w x → Looked v w s p x
  loads_looked w x h = let g = loads_found w x h in let m = met v w (Look s i) p x x loads.place g loads.hosted in record {
    met = m;
    view = subst (λ (q : Place). Learns v w s (look_at L (shown L g.0.words) (knows v s) q)) back m.made.view;
    kept = kept_by v w (Look s i) p x m;
  }

  counts : (w : View) (x : ℕ) → (g : Finds v i w x) → numbers_of (known_after L (shown L g.0.words) (knows v s) (Look s i)) ≡ numbers_look L x (told v s) p
  counts w x g = becomes v (Core (Look s i)) g.0.words g.0.known g.0.merger g.0.allowed loads.hosted (loads.low, below L p loads.place) tt
      ∙ ((λ j. numbers_look L (slice_index g.0.words (address L (back j))) (told v s) (back j)) ∙ ap (λ (y : ℕ). numbers_look L y (told v s) p) g.1)

  pub loads_tell : (w : View) (x : ℕ) → Finds u a w x → (n : Numbers) → n ≡ numbers_look L x (told v s) p → Tells w (set numbers s n)
  loads_tell w x h n is = let g = loads_found w x h in tells_after v w numbers (Core (Look s i)) i x s n here refl loads.hosted g.0 (counts w x g ∙ sym is)

  pub loads_still : (w : View) (x : ℕ) → Finds u a w x → IsQuiet p → Tells w numbers
  loads_still w x h q = let g = loads_found w x h in tells_still v w numbers (Core (Look s i)) i x s here refl loads.hosted g.0 (counts w x g ∙ quiet L x (told v s) p q)

  pub loads_read : (n : Numbers) → n ≡ get_or numbers s n → n ≡ told v s
  loads_read n read = reads u v numbers s n loads.same loads.tells read loads.hosted

  pub loads_low : s < length numbers
  loads_low = here.all s loads.hosted
