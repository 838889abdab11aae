-- The keys that writes place.
use Rattle.std.proofs.Common.{◌≡◌, ℕ, ◌*◌, ◌<◌, ◌≤◌, Bool, true, false, cond, List, [], ◌∷◌, ◌++◌, length, refl, sym, ap, ◌∙◌, subst, arith, length-append}
use Rattle.std.proofs.lemmas.Bool.{ltb-true, eqb-true}
use Rattle.std.proofs.lemmas.Nat.{div_below}
use Rattle.std.specs.Prelude.{Some, None, is_some, unwrap_or, nat_lt, ◌==◌, ◌/◌}
use Rattle.std.specs.List.{position_or_len}
use Rattle.lst_model.specs.declared.acts.Write.{Write}
use Rattle.lst_model.specs.declared.commits.Commit.{Commit}
use Rattle.lst_model.specs.Histories.{acts_on, all_acts_on}
use Rattle.lst_machine.specs.Writes.{is_placed, with_key, range_of}
use Rattle.lst_machine.proofs.Places.{place_stays, key_placed}
use Rattle.lst_replay_laws.specs.Again.{placed_by, placed_by_all}

pub placed_by-split : (placed : List ℕ) (xs ys : List Write) → placed_by placed (xs ++ ys) ≡ placed_by (placed_by placed xs) ys
placed_by-split placed [] ys = refl
placed_by-split placed (x ∷ xs) ys = placed_by-split (with_key placed x.key) xs ys

pub placed_by_all-split : (placed : List ℕ) (xs ys : List Commit) → placed_by_all placed (xs ++ ys) ≡ placed_by_all (placed_by_all placed xs) ys
placed_by_all-split placed [] ys = refl
placed_by_all-split placed (x ∷ xs) ys = placed_by_all-split (placed_by placed x.writes) xs ys

-- ---- lengths

pub with_key-length : (placed : List ℕ) (key : ℕ) → length placed ≤ length (with_key placed key)
with_key-length placed key = at (is_placed placed key)
  where
    at : (b : Bool) → length placed ≤ length (cond b placed (placed ++ key ∷ []))
    at true = omega arith
    at false = let more = length-append placed (key ∷ []) in omega (arith, more)

pub placed_by-length : (placed : List ℕ) (ws : List Write) → length placed ≤ length (placed_by placed ws)
placed_by-length placed [] = omega arith
placed_by-length placed (w ∷ ws) = let one = with_key-length placed w.key in let rest = placed_by-length (with_key placed w.key) ws in omega (arith, one, rest)

pub placed_by_all-length : (placed : List ℕ) (cs : List Commit) → length placed ≤ length (placed_by_all placed cs)
placed_by_all-length placed [] = omega arith
placed_by_all-length placed (c ∷ cs) = let one = placed_by-length placed c.writes in let rest = placed_by_all-length (placed_by placed c.writes) cs in omega (arith, one, rest)

-- ---- a key that was written is placed

pub with_key_stays : (placed : List ℕ) (key q : ℕ) → is_placed placed q ≡ true → is_placed (with_key placed key) q ≡ true
with_key_stays placed key q is = ap is_some (place_stays placed key q is) ∙ is

stays : (placed : List ℕ) (ws : List Write) (q : ℕ) → is_placed placed q ≡ true → is_placed (placed_by placed ws) q ≡ true
stays placed [] q is = is
stays placed (w ∷ ws) q is = stays (with_key placed w.key) ws q (with_key_stays placed w.key q is)

stays_all : (placed : List ℕ) (cs : List Commit) (q : ℕ) → is_placed placed q ≡ true → is_placed (placed_by_all placed cs) q ≡ true
stays_all placed [] q is = is
stays_all placed (c ∷ cs) q is = stays_all (placed_by placed c.writes) cs q (stays placed c.writes q is)

both : {b : Bool} → b ≡ true → b ≡ false → ⊥
both one two = let no : true ≡ false = sym one ∙ two in cc

pub unwritten : (placed : List ℕ) (ws : List Write) (q : ℕ) → is_placed (placed_by placed ws) q ≡ false → acts_on q ws ≡ []
unwritten placed [] q none = refl
unwritten placed (w ∷ ws) q none = at (unwritten (with_key placed w.key) ws q none) (w.key == q) refl
  where
    at : acts_on q ws ≡ [] → (b : Bool) → (w.key == q) ≡ b → cond b (w.act ∷ acts_on q ws) (acts_on q ws) ≡ []
    at rest true is = absurd (both (stays (with_key placed w.key) ws q (subst (λ k. is_placed (with_key placed w.key) k ≡ true) (eqb-true _ _ is) (key_placed placed w.key))) none)
    at rest false is = rest

pub unwritten_all : (placed : List ℕ) (cs : List Commit) (q : ℕ) → is_placed (placed_by_all placed cs) q ≡ false → all_acts_on q cs ≡ []
unwritten_all placed [] q none = refl
unwritten_all placed (c ∷ cs) q none = at (unwritten_all (placed_by placed c.writes) cs q none) (is_placed (placed_by placed c.writes) q) refl
  where
    at : all_acts_on q cs ≡ [] → (b : Bool) → is_placed (placed_by placed c.writes) q ≡ b → acts_on q c.writes ++ all_acts_on q cs ≡ []
    at rest true is = absurd (both (stays_all (placed_by placed c.writes) cs q is) none)
    at rest false is = (λ i. unwritten placed c.writes q is i ++ rest i)

pub placed_front : (placed : List ℕ) (ws : List Write) (q : ℕ) → is_placed (placed_by placed ws) q ≡ false → is_placed placed q ≡ false
placed_front placed ws q none = at (is_placed placed q) refl
  where
    at : (b : Bool) → is_placed placed q ≡ b → b ≡ false
    at true is = absurd (both (stays placed ws q is) none)
    at false is = refl

-- ---- the range of a placed key is one of those that the keys fill

pub range_low : (placed : List ℕ) (key ranges : ℕ) → is_placed placed key ≡ true → length placed ≤ 256 * ranges → range_of placed key < ranges
range_low placed key ranges is few = at (nat_lt (position_or_len (λ other. other == key) placed) (length placed)) refl is
  where
    place : ℕ
    place = position_or_len (λ other. other == key) placed

    at : (b : Bool) → nat_lt place (length placed) ≡ b → is_some (cond b (Some place) None) ≡ true → unwrap_or (cond (nat_lt place (length placed)) (Some place) None) 0 / 256 < ranges
    at true low some = subst (λ (b : Bool). unwrap_or (cond b (Some place) None) 0 / 256 < ranges) (sym low) (let below : place < length placed = ltb-true _ _ low in div_below place 256 ranges (omega arith) (omega (arith, below, few)))
    at false low some = absurd (cc)
