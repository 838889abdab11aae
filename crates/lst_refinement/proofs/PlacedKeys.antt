-- The keys of the records by the order of their draws, and a key that gets a record.
use Rattle.std.proofs.Common.{◌≡◌, ◌≢◌, ℕ, zero, suc, ◌+◌, ◌*◌, ◌/◌, ◌%◌, ◌<◌, ◌≤◌, Bool, true, false, cond, nat_lt, List, [], ◌∷◌, ◌++◌, length, refl, ap, ◌∙◌, sym, arith, eq-eqb, ne_eqb, inl}
use Rattle.std.specs.Prelude.{Option, Some, None, is_some, ◌==◌}
use Rattle.std.specs.List.{position_or_len}
use Rattle.lst_layout.specs.declared.limits.Limits.{Limits}
use Rattle.lst_layout.proofs.Functions.{put_here, put_else}
use Rattle.lst_core_state.specs.Writes.{write}
use Rattle.lst_machine.specs.Writes.{place_of, with_key}
use Rattle.lst_machine.specs.Calls.{with_placed}
use Rattle.lst_core_state.specs.Cells.{listed, record_count}
use Rattle.lst_core_state.specs.Index.{size, is_placed}
use Rattle.lst_core_state.specs.State.{Words, Core, writer_at, record_in, act_in, history_of}
use Rattle.lst_core_state.proofs.Steps.{Same}
use Rattle.lst_core_state.proofs.Decoded.{decoded_same}
use Rattle.lst_refinement.specs.Crews.{IsCrew}
use Rattle.lst_refinement.specs.Telling.{told_store, told}
use Rattle.lst_refinement.specs.Effects.{placed_words}
use Rattle.lst_refinement.specs.Laws.{PlacesAreTold}
use Rattle.lst_refinement.proofs.Openings.{store_same}
use Rattle.lst_refinement.proofs.Stamped.{accepted_first_same}
use Rattle.lst_refinement.proofs.DrawnTails.{placed_low, stored_low, counted_apart}

-- ---- the place of a number in a list

-- one place further
abbrev next : Option ℕ → Option ℕ
next None = None
next (Some place) = Some (place + 1)

place_cons : (x : ℕ) (xs : List ℕ) (q : ℕ) → place_of (x ∷ xs) q ≡ cond (x == q) (Some 0) (next (place_of xs q))
place_cons x xs q = at_test (x == q) refl
  where
    found : (b : Bool) → nat_lt (position_or_len (λ other. other == q) xs) (length xs) ≡ b → cond (nat_lt (1 + position_or_len (λ other. other == q) xs) (suc (length xs))) (Some (1 + position_or_len (λ other. other == q) xs)) None ≡ next (cond b (Some (position_or_len (λ other. other == q) xs)) None)
    found true is = grind arith
    found false is = grind arith

    at_test : (b : Bool) → (x == q) ≡ b → place_of (x ∷ xs) q ≡ cond b (Some 0) (next (place_of xs q))
    at_test true is = grind arith
    at_test false is = grind arith

-- a number stands where it first is
listed_place : (f : ℕ → ℕ) (key p n r : ℕ) → r < n → f (p + r) ≡ key → ((j : ℕ) → j < r → f (p + j) ≢ key) → place_of (listed f p n) key ≡ Some r
listed_place f key p zero r low here before = absurd (omega arith)
listed_place f key p (suc n) zero low here before = let first : f p ≡ key = (λ i. f (add_zero i)) ∙ here in
    place_cons (f p) (listed f (suc p) n) key ∙ ap (λ (b : Bool). cond b (Some 0) (next (place_of (listed f (suc p) n) key))) (eq-eqb (f p) key first)
  where
    add_zero : p ≡ p + 0
    add_zero = omega arith
listed_place f key p (suc n) (suc r) low here before =
    place_cons (f p) (listed f (suc p) n) key
    ∙ ap (λ (b : Bool). cond b (Some 0) (next (place_of (listed f (suc p) n) key))) (ne_eqb (f p) key (λ e. before 0 (omega arith) (ap f (further 0) ∙ e)))
    ∙ ap next (listed_place f key (suc p) n r (omega arith) (ap f (shifted r) ∙ here) (λ j h e. before (suc j) (omega arith) (sym (ap f (shifted j)) ∙ e)))
    ∙ ap Some (one_more r)
  where
    further : (z : ℕ) → p + 0 ≡ p
    further z = omega arith

    shifted : (j : ℕ) → suc p + j ≡ p + suc j
    shifted j = omega arith

    one_more : (j : ℕ) → j + 1 ≡ suc j
    one_more j = omega arith

listed_next : (f : ℕ → ℕ) (p n : ℕ) → listed f p (suc n) ≡ listed f p n ++ f (p + n) ∷ []
listed_next f p zero = ap (λ (x : ℕ). f x ∷ []) add_zero
  where
    add_zero : p ≡ p + 0
    add_zero = omega arith
listed_next f p (suc n) = ap (λ (rest : List ℕ). f p ∷ rest) (listed_next f (suc p) n ∙ ap (λ (x : ℕ). listed f (suc p) n ++ f x ∷ []) shifted)
  where
    shifted : suc p + n ≡ p + suc n
    shifted = omega arith

listed_below : (f g : ℕ → ℕ) (p n : ℕ) → ((q : ℕ) → p ≤ q → q < p + n → g q ≡ f q) → listed g p n ≡ listed f p n
listed_below f g p zero same = refl
listed_below f g p (suc n) same = λ i. same p (omega arith) (omega arith) i ∷ listed_below f g (suc p) n (λ q low high. same q (omega arith) (omega arith)) i

from_zero : (x : ℕ) → 0 + x ≡ x
from_zero x = omega arith

-- ---- the keys of a crew's store

module _ (c : Core) (crew : IsCrew c) where
  abbrev L : Limits
  L = c.limits

  abbrev w : Words
  w = c.words

  -- a key has its record's place
  pub key_place : (r : ℕ) → r < record_count L → is_placed L w.index r ≡ true → place_of (told c).placed (w.keys r) ≡ Some r
  key_place r low is = let drawn = placed_low c crew r is in let few = crew.records in
      listed_place w.keys (w.keys r) 0 w.counter r drawn (ap w.keys (from_zero r)) (λ j before same. let one = crew.sound.versions.keys_apart j r (omega arith) low (crew.placed j (omega arith)) is (ap w.keys (sym (from_zero j)) ∙ same) in omega arith)

  -- a key gets the next record
  module _ (key q : ℕ) (room : w.counter < record_count L) (inside : q < size L) (free : w.index q ≡ 0) (absent : place_of (told c).placed key ≡ None) where
    abbrev after : Words
    after = placed_words w key q

    key_stays : (r : ℕ) → r ≢ w.counter → after.keys r ≡ w.keys r
    key_stays r other = put_else w.keys w.counter key r other

    stays : (t : ℕ) → 0 < w.cells t 0 → Same L w after t
    stays t some = record { stays = some; words = λ _ _. refl; by = refl; key = let low = stored_low c crew t some in key_stays (record_in L w.cells t) (λ e. omega arith); begin = refl; state = inl refl }

    history_stays : history_of L after ≡ history_of L w
    history_stays = decoded_same L w c.known crew.sound.sized crew.sound.times crew.sound.each crew.sound.versions after refl (λ _ _ _. refl) (λ _ _ _. refl) stays (λ u t _ _ none. inl none)

    accepted_stays : (range : ℕ) → (told_store L after c.known).accepted range ≡ (told c).accepted range
    accepted_stays range = accepted_first_same L w after range (w.counts range) (λ k h. let t : ℕ = range * L.tails + suc k in
        λ i. record { session = writer_at w t % 16; number = writer_at w t / 16; write = write (key_stays (record_in L w.cells t) (counted_apart c crew range k h room) i) (act_in L w.cells t) })

    placed_next : (told_store L after c.known).placed ≡ with_key (told c).placed key
    placed_next = ap (listed after.keys 0) one_more ∙ (listed_next after.keys 0 w.counter
        ∙ ((λ i. listed_below w.keys after.keys 0 w.counter (λ p low high. key_stays p (λ e. omega arith)) i ++ (ap after.keys (from_zero w.counter) ∙ put_here w.keys w.counter key) i ∷ [])
        ∙ sym (ap (λ (place : Option ℕ). cond (is_some place) (told c).placed ((told c).placed ++ key ∷ [])) absent)))
      where
        one_more : w.counter + 1 ≡ suc w.counter
        one_more = omega arith

    placed_store : told_store L after c.known ≡ with_placed (told c) key
    placed_store = store_same (told_store L after c.known) (with_placed (told c) key) history_stays placed_next accepted_stays (λ _. refl) (λ _. refl) (λ _ _. refl)

pub places_are_told : PlacesAreTold
places_are_told c crew key q room inside free absent = placed_store c crew key q room inside free absent
