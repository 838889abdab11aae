-- The place of a key, once one more key stands last.
use Rattle.std.proofs.Common.{◌≡◌, ℕ, suc, ◌+◌, Bool, true, false, cond, List, [], ◌∷◌, ◌++◌, length, refl, sym, ap, ◌∙◌, arith}
use Rattle.std.proofs.lemmas.Bool.{eq-eqb}
use Rattle.std.specs.Prelude.{Option, Some, None, is_some, nat_lt, ◌==◌}
use Rattle.std.specs.List.{position_or_len}
use Rattle.lst_machine.specs.Writes.{place_of, is_placed, with_key}

-- one place further
abbrev pub next : Option ℕ → Option ℕ
next None = None
next (Some place) = Some (place + 1)

pub place-cons : (x : ℕ) (xs : List ℕ) (q : ℕ) → place_of (x ∷ xs) q ≡ cond (x == q) (Some 0) (next (place_of xs q))
place-cons x xs q = at_test (x == q) refl
  where
    found : (b : Bool) → nat_lt (position_or_len (λ other. other == q) xs) (length xs) ≡ b → cond (nat_lt (1 + position_or_len (λ other. other == q) xs) (suc (length xs))) (Some (1 + position_or_len (λ other. other == q) xs)) None ≡ next (cond b (Some (position_or_len (λ other. other == q) xs)) None)
    found true is = grind arith
    found false is = grind arith

    at_test : (b : Bool) → (x == q) ≡ b → place_of (x ∷ xs) q ≡ cond b (Some 0) (next (place_of xs q))
    at_test true is = grind arith
    at_test false is = grind arith

-- the place of q once a key stands last
abbrev pub with_last : Option ℕ → Bool → ℕ → Option ℕ
with_last (Some place) same last = Some place
with_last None same last = cond same (Some last) None

with_last-next : (place : Option ℕ) (same : Bool) (last : ℕ) → next (with_last place same last) ≡ with_last (next place) same (suc last)
with_last-next (Some place) same last = refl
with_last-next None true last = ap Some (omega arith)
with_last-next None false last = refl

with_last-cond : (here : Bool) (place : Option ℕ) (same : Bool) (last : ℕ) → cond here (Some 0) (with_last place same last) ≡ with_last (cond here (Some 0) place) same last
with_last-cond true place same last = refl
with_last-cond false place same last = refl

pub place-append : (xs : List ℕ) (key q : ℕ) → place_of (xs ++ key ∷ []) q ≡ with_last (place_of xs q) (key == q) (length xs)
place-append [] key q = place-cons key [] q ∙ none (key == q)
  where
    none : (b : Bool) → cond b (Some 0) (next (place_of [] q)) ≡ with_last (place_of [] q) b 0
    none true = refl
    none false = refl
place-append (x ∷ xs) key q =
    place-cons x (xs ++ key ∷ []) q
    ∙ ap (λ p. cond (x == q) (Some 0) (next p)) (place-append xs key q)
    ∙ ap (cond (x == q) (Some 0)) (with_last-next (place_of xs q) (key == q) (length xs))
    ∙ with_last-cond (x == q) (next (place_of xs q)) (key == q) (suc (length xs))
    ∙ ap (λ p. with_last p (key == q) (suc (length xs))) (sym (place-cons x xs q))

-- a key that is placed keeps its place
place_kept : (p : Option ℕ) (same : Bool) (last : ℕ) → is_some p ≡ true → with_last p same last ≡ p
place_kept (Some place) same last is = refl
place_kept None same last is = cc

pub place_stays : (placed : List ℕ) (key q : ℕ) → is_placed placed q ≡ true → place_of (with_key placed key) q ≡ place_of placed q
place_stays placed key q is = at (is_placed placed key)
  where
    at : (b : Bool) → place_of (cond b placed (placed ++ key ∷ [])) q ≡ place_of placed q
    at true = refl
    at false = place-append placed key q ∙ place_kept (place_of placed q) (key == q) (length placed) is

-- a key has a place behind the call that places it
pub key_placed : (placed : List ℕ) (key : ℕ) → is_placed (with_key placed key) key ≡ true
key_placed placed key = at (is_placed placed key) refl
  where
    here : (p : Option ℕ) → is_some (with_last p true (length placed)) ≡ true
    here (Some place) = refl
    here None = refl

    at : (b : Bool) → is_placed placed key ≡ b → is_placed (cond b placed (placed ++ key ∷ [])) key ≡ true
    at true is = is
    at false is = ap is_some (place-append placed key key ∙ ap (λ b. with_last (place_of placed key) b (length placed)) (eq-eqb key key refl)) ∙ here (place_of placed key)
