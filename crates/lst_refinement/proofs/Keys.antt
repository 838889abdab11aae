-- The places of keys are their records.
use Rattle.std.proofs.Common.{◌≡◌, ◌≢◌, ℕ, zero, suc, ◌+◌, ◌-◌, ◌<◌, ◌≤◌, Bool, true, false, cond, List, ◌∷◌, length, refl, ap, ◌∙◌, arith, eq-eqb, ne_eqb}
use mathlib.Core.Logic.{dite}
use native.Mathlib.Decide.{ℕ_discrete}
use Rattle.std.specs.Prelude.{Option, Some, None, nat_lt, ◌==◌}
use Rattle.std.specs.List.{position_or_len}
use Rattle.lst_machine.specs.Writes.{place_of}
use Rattle.lst_core_state.specs.Cells.{record_count, listed}
use Rattle.lst_core_state.specs.Index.{is_placed}
use Rattle.lst_core_state.specs.State.{Core}
use Rattle.lst_core_state.proofs.Positions.{placed_says}
use Rattle.lst_refinement.specs.Crews.{IsCrew}
use Rattle.lst_refinement.specs.Laws.{KeysArePlaced, OthersAreUnplaced}

-- one place further
abbrev pub next : Option ℕ → Option ℕ
next None = None
next (Some place) = Some (place + 1)

place-cons : (x : ℕ) (xs : List ℕ) (q : ℕ) → place_of (x ∷ xs) q ≡ cond (x == q) (Some 0) (next (place_of xs q))
place-cons x xs q = at_test (x == q) refl
  where
    found : (b : Bool) → nat_lt (position_or_len (λ other. other == q) xs) (length xs) ≡ b → cond (nat_lt (1 + position_or_len (λ other. other == q) xs) (suc (length xs))) (Some (1 + position_or_len (λ other. other == q) xs)) None ≡ next (cond b (Some (position_or_len (λ other. other == q) xs)) None)
    found true is = grind arith
    found false is = grind arith

    at_test : (b : Bool) → (x == q) ≡ b → place_of (x ∷ xs) q ≡ cond b (Some 0) (next (place_of xs q))
    at_test true is = grind arith
    at_test false is = grind arith

module _ (keys : ℕ → ℕ) (key : ℕ) where
  -- the first record of a key is its place
  place-first : (n p r : ℕ) → p ≤ r → r < p + n → keys r ≡ key → ((q : ℕ) → p ≤ q → q < r → keys q ≢ key) → place_of (listed keys p n) key ≡ Some (r - p)
  place-first zero p r low high is before = absurd (omega arith)
  place-first (suc n) p r low high is before = place-cons (keys p) (listed keys (suc p) n) key ∙ dite (ℕ_discrete p r)
      (λ e. ap (λ b. cond b (Some 0) (next (place_of (listed keys (suc p) n) key))) (eq-eqb (keys p) key (ap keys e ∙ is)) ∙ ap Some (let z : 0 ≡ r - p = omega arith in z))
      (λ ne. ap (λ b. cond b (Some 0) (next (place_of (listed keys (suc p) n) key))) (ne_eqb (keys p) key (before p (omega arith) (omega arith)))
      ∙ (ap next (place-first n (suc p) r (omega arith) (omega arith) is (λ q above below. before q (omega arith) below)) ∙ ap Some (let z : r - suc p + 1 ≡ r - p = omega arith in z)))

  place-none : (n p : ℕ) → ((q : ℕ) → p ≤ q → q < p + n → keys q ≢ key) → place_of (listed keys p n) key ≡ None
  place-none zero p none = refl
  place-none (suc n) p none = place-cons (keys p) (listed keys (suc p) n) key
      ∙ (ap (λ b. cond b (Some 0) (next (place_of (listed keys (suc p) n) key))) (ne_eqb (keys p) key (none p (omega arith) (omega arith)))
      ∙ ap next (place-none n (suc p) (λ q above below. none q (omega arith) (omega arith))))

module _ (c : Core) (crew : IsCrew c) where
  -- a record in the index was drawn
  pub placed_low : (r : ℕ) → is_placed c.limits c.words.index r ≡ true → r < c.words.counter
  placed_low r is = let q = placed_says c.limits c.words.index r is in let at = q.2 in let f = (crew.sound.index.filled q.0 (omega arith)).low in omega arith

  pub key_place : (r : ℕ) → r < record_count c.limits → is_placed c.limits c.words.index r ≡ true → place_of (listed c.words.keys 0 c.words.counter) (c.words.keys r) ≡ Some r
  key_place r few is = let low = placed_low r is in let most = crew.records in
      place-first c.words.keys (c.words.keys r) c.words.counter 0 r (omega arith) (omega arith) refl
      (λ q _ below e. let same = crew.sound.versions.keys_apart q r (omega arith) few (crew.placed q (omega arith)) is e in absurd (omega arith))
      ∙ ap Some (let z : r - 0 ≡ r = omega arith in z)

  key_unplaced : (key : ℕ) → ((r : ℕ) → r < record_count c.limits → is_placed c.limits c.words.index r ≡ true → c.words.keys r ≢ key) → place_of (listed c.words.keys 0 c.words.counter) key ≡ None
  key_unplaced key none = let most = crew.records in place-none c.words.keys key c.words.counter 0 (λ q _ below. none q (omega arith) (crew.placed q (omega arith)))

pub keys_are_placed : KeysArePlaced
keys_are_placed c crew = key_place c crew

pub others_are_unplaced : OthersAreUnplaced
others_are_unplaced c crew = key_unplaced c crew
