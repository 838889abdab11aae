-- The acts of one transaction on one key, among accepted writes.
use Rattle.std.proofs.Common.{◌≡◌, ◌≢◌, ◌⊎◌, ⊎_elim, ℕ, zero, suc, ◌<◌, ◌≤◌, Bool, true, false, cond, List, [], ◌∷◌, ◌++◌, refl, sym, ap, ◌∙◌, subst, arith, append_assoc, append-nil, inl, inr, eq-eqb, ne_eqb}
use Rattle.std.proofs.lemmas.Bool.{eqb-true}
use Rattle.std.specs.Prelude.{◌==◌, ◌&&◌}
use Rattle.std.specs.List.{AllByRecursion}
use mathlib.Core.Logic.{dite}
use native.Mathlib.Decide.{ℕ_discrete}
use Rattle.lst_model.specs.declared.acts.Act.{Act}
use Rattle.lst_model.specs.declared.acts.Write.{Write}
use Rattle.lst_model.specs.Histories.{acts_on, joined, StandByKey}
use Rattle.lst_model.proofs.Folds.{acts_on-append}
use Rattle.lst_model.proofs.Joining.{joins}
use Rattle.lst_machine.specs.State.{Accepted}
use Rattle.lst_machine.specs.Writes.{put, gathered, accepted_below}

abbrev pub is_made_by : ℕ → ℕ → Accepted → Bool
is_made_by s n a = a.session == s && a.number == n

-- the acts of a session's transaction on a key
abbrev pub acts_by : ℕ → ℕ → ℕ → List Accepted → List Act
acts_by s n key [] = []
acts_by s n key (a ∷ rest) = cond (is_made_by s n a && a.write.key == key) (a.write.act ∷ acts_by s n key rest) (acts_by s n key rest)

-- ---- lists

pub all_map : {A : Type 0} {P Q : A → Type 0} → ((x : A) → P x → Q x) → (xs : List A) → AllByRecursion P xs → AllByRecursion Q xs
all_map f [] all = tt
all_map f (x ∷ xs) all = (f x all.0, all_map f xs all.1)

pub all_push : {A : Type 0} (P : A → Type 0) (xs : List A) (y : A) → AllByRecursion P xs → P y → AllByRecursion P (xs ++ y ∷ [])
all_push P [] y all last = (last, tt)
all_push P (x ∷ xs) y all last = (all.0, all_push P xs y all.1 last)

cond-append : {A : Type 0} (b : Bool) (x : A) (xs ys : List A) → cond b (x ∷ (xs ++ ys)) (xs ++ ys) ≡ cond b (x ∷ xs) xs ++ ys
cond-append true x xs ys = refl
cond-append false x xs ys = refl

pub acts_by-append : (s n key : ℕ) (xs ys : List Accepted) → acts_by s n key (xs ++ ys) ≡ acts_by s n key xs ++ acts_by s n key ys
acts_by-append s n key [] ys = refl
acts_by-append s n key (a ∷ xs) ys =
    ap (λ acts. cond (is_made_by s n a && a.write.key == key) (a.write.act ∷ acts) acts) (acts_by-append s n key xs ys)
    ∙ cond-append (is_made_by s n a && a.write.key == key) a.write.act (acts_by s n key xs) (acts_by s n key ys)

-- ---- what is gathered has these acts

in_turn : (b : Bool) (front : List Act) (act : Act) (rest : List Act) → (front ++ cond b (act ∷ []) []) ++ rest ≡ front ++ cond b (act ∷ rest) rest
in_turn true front act rest = append_assoc front (act ∷ []) rest
in_turn false front act rest = ap (λ acts. acts ++ rest) (append-nil front)

pub gathered_acts : (s n key : ℕ) (writes : List Write) (xs : List Accepted) → StandByKey writes → acts_on key (gathered s n writes xs) ≡ acts_on key writes ++ acts_by s n key xs
gathered_acts s n key writes [] stand = sym (append-nil (acts_on key writes))
gathered_acts s n key writes (a ∷ xs) stand = at (λ ws st. gathered_acts s n key ws xs st) (is_made_by s n a)
  where
    at : ((ws : List Write) → StandByKey ws → acts_on key (gathered s n ws xs) ≡ acts_on key ws ++ acts_by s n key xs) → (b : Bool) → acts_on key (gathered s n (cond b (joined writes a.write) writes) xs) ≡ acts_on key writes ++ cond (b && a.write.key == key) (a.write.act ∷ acts_by s n key xs) (acts_by s n key xs)
    at rest true =
        rest (joined writes a.write) ((joins writes a.write).order stand)
        ∙ ap (λ acts. acts ++ acts_by s n key xs) ((joins writes a.write).acts key stand ∙ acts_on-append key writes (a.write ∷ []))
        ∙ in_turn (a.write.key == key) (acts_on key writes) a.write.act (acts_by s n key xs)
    at rest false = rest writes stand

-- ---- found and not found

-- there is no act, or there is a write that has made one
pub acts_found : {P : Accepted → Type 0} (s n key : ℕ) (xs : List Accepted) → AllByRecursion P xs
    → (acts_by s n key xs ≡ []) ⊎ ((a : Accepted) × P a × (a.session ≡ s) × (a.number ≡ n) × (a.write.key ≡ key))
acts_found s n key [] all = inl refl
acts_found {P} s n key (a ∷ xs) all = at (a.session == s) refl (a.number == n) refl (a.write.key == key) refl (acts_found s n key xs all.1)
  where
    at : (b : Bool) → (a.session == s) ≡ b → (c : Bool) → (a.number == n) ≡ c → (d : Bool) → (a.write.key == key) ≡ d
        → (acts_by s n key xs ≡ []) ⊎ ((a : Accepted) × P a × (a.session ≡ s) × (a.number ≡ n) × (a.write.key ≡ key))
        → (cond ((b && c) && d) (a.write.act ∷ acts_by s n key xs) (acts_by s n key xs) ≡ []) ⊎ ((a : Accepted) × P a × (a.session ≡ s) × (a.number ≡ n) × (a.write.key ≡ key))
    at true e true f true g rest = inr (a, all.0, eqb-true _ _ e, eqb-true _ _ f, eqb-true _ _ g)
    at true e true f false g rest = rest
    at true e false f d g rest = rest
    at false e c f d g rest = rest

-- no write made an act
pub acts_none : (s n key : ℕ) (xs : List Accepted) → AllByRecursion (λ (a : Accepted). (a.session ≡ s) → (a.number ≡ n) → a.write.key ≢ key) xs → acts_by s n key xs ≡ []
acts_none s n key xs all = ⊎_elim (λ (e : acts_by s n key xs ≡ []). e) (λ (f : (a : Accepted) × ((a.session ≡ s) → (a.number ≡ n) → a.write.key ≢ key) × (a.session ≡ s) × (a.number ≡ n) × (a.write.key ≡ key)). absurd (f.1 f.2 f.3 f.4)) (acts_found s n key xs all)

-- one more write that isn't such a one
pub acts_other : (s n key : ℕ) (xs : List Accepted) (w : Accepted) → ((w.session ≡ s) → (w.number ≡ n) → w.write.key ≢ key) → acts_by s n key (xs ++ w ∷ []) ≡ acts_by s n key xs
acts_other s n key xs w apart = acts_by-append s n key xs (w ∷ []) ∙ ap (λ acts. acts_by s n key xs ++ acts) (acts_none s n key (w ∷ []) (apart, tt)) ∙ append-nil (acts_by s n key xs)

-- one more that is
pub acts_more : (s n key : ℕ) (act : Act) (xs : List Accepted) (w : Accepted) → w.session ≡ s → w.number ≡ n → w.write.key ≡ key → w.write.act ≡ act → acts_by s n key (xs ++ w ∷ []) ≡ acts_by s n key xs ++ act ∷ []
acts_more s n key act xs w e f g h = acts_by-append s n key xs (w ∷ [])
    ∙ ap (λ acts. acts_by s n key xs ++ acts) ((λ i. cond ((eq-eqb w.session s e i && eq-eqb w.number n f i) && eq-eqb w.write.key key g i) (w.write.act ∷ []) []) ∙ ap (λ a. a ∷ []) h)

-- ---- over ranges

none_both : (xs ys : List Act) → xs ++ ys ≡ [] → ys ≡ []
none_both [] ys e = e
none_both (x ∷ xs) ys e = cc

first_none : (xs ys : List Act) → xs ++ ys ≡ [] → xs ≡ []
first_none [] ys e = refl
first_none (x ∷ xs) ys e = cc

module _ (s n key : ℕ) (accepted : ℕ → List Accepted) where
  pub flat_none : (ranges : ℕ) → ((range : ℕ) → acts_by s n key (accepted range) ≡ []) → acts_by s n key (accepted_below accepted ranges) ≡ []
  flat_none zero none = refl
  flat_none (suc range) none = acts_by-append s n key (accepted_below accepted range) (accepted range) ∙ ap (λ acts. acts ++ acts_by s n key (accepted range)) (flat_none range none) ∙ none range

  pub part_none : (ranges range : ℕ) → range < ranges → acts_by s n key (accepted_below accepted ranges) ≡ [] → acts_by s n key (accepted range) ≡ []
  part_none zero range low none = absurd (omega arith)
  part_none (suc last) range low none = let both = sym (acts_by-append s n key (accepted_below accepted last) (accepted last)) ∙ none in
      dite (ℕ_discrete range last)
      (λ e. subst (λ r. acts_by s n key (accepted r) ≡ []) (sym e) (none_both (acts_by s n key (accepted_below accepted last)) (acts_by s n key (accepted last)) both))
      (λ other. part_none last range (omega (arith, low, other)) (first_none (acts_by s n key (accepted_below accepted last)) (acts_by s n key (accepted last)) both))

module _ {A : Type 0} (f : ℕ → A) (k : ℕ) (a : A) where
  pub put_here : put f k a k ≡ a
  put_here = ap (λ b. cond b a (f k)) (eq-eqb k k refl)

  pub put_else : (j : ℕ) → j ≢ k → put f k a j ≡ f j
  put_else j other = ap (λ b. cond b a (f j)) (ne_eqb j k other)

-- a write more, last in its range
module _ (accepted : ℕ → List Accepted) (range : ℕ) (w : Accepted) where
  abbrev pub longer : ℕ → List Accepted
  longer = put accepted range (accepted range ++ w ∷ [])

  pub flat_same : (ranges : ℕ) → ranges ≤ range → accepted_below longer ranges ≡ accepted_below accepted ranges
  flat_same zero low = refl
  flat_same (suc last) low = (λ i. flat_same last (omega arith) i ++ put_else accepted range (accepted range ++ w ∷ []) last (λ e. omega (arith, e)) i)

  -- it makes no act of this kind
  pub flat_other : (s n key : ℕ) → ((w.session ≡ s) → (w.number ≡ n) → w.write.key ≢ key) → (ranges : ℕ) → acts_by s n key (accepted_below longer ranges) ≡ acts_by s n key (accepted_below accepted ranges)
  flat_other s n key apart zero = refl
  flat_other s n key apart (suc last) =
      acts_by-append s n key (accepted_below longer last) (longer last)
      ∙ (λ i. flat_other s n key apart last i ++ at i)
      ∙ sym (acts_by-append s n key (accepted_below accepted last) (accepted last))
    where
      at : acts_by s n key (longer last) ≡ acts_by s n key (accepted last)
      at = dite (ℕ_discrete last range)
          (λ e. subst (λ r. acts_by s n key (longer r) ≡ acts_by s n key (accepted r)) (sym e) (ap (acts_by s n key) (put_here accepted range (accepted range ++ w ∷ [])) ∙ acts_other s n key (accepted range) w apart))
          (λ other. ap (acts_by s n key) (put_else accepted range (accepted range ++ w ∷ []) last other))

  -- it makes the last act, where the ranges above have none on its key
  pub flat_more : (s n key : ℕ) (act : Act) → w.session ≡ s → w.number ≡ n → w.write.key ≡ key → w.write.act ≡ act → ((other : ℕ) → other ≢ range → acts_by s n key (accepted other) ≡ [])
      → (ranges : ℕ) → range < ranges → acts_by s n key (accepted_below longer ranges) ≡ acts_by s n key (accepted_below accepted ranges) ++ act ∷ []
  flat_more s n key act e f g h none zero low = absurd (omega arith)
  flat_more s n key act e f g h none (suc last) low =
      acts_by-append s n key (accepted_below longer last) (longer last)
      ∙ at (λ below. flat_more s n key act e f g h none last below)
      ∙ ap (λ acts. acts ++ act ∷ []) (sym (acts_by-append s n key (accepted_below accepted last) (accepted last)))
    where
      here : acts_by s n key (accepted_below longer range) ++ acts_by s n key (longer range) ≡ (acts_by s n key (accepted_below accepted range) ++ acts_by s n key (accepted range)) ++ act ∷ []
      here = (λ i. acts_by s n key (flat_same range (omega arith) i) ++ acts_by s n key (put_here accepted range (accepted range ++ w ∷ []) i))
          ∙ ap (λ acts. acts_by s n key (accepted_below accepted range) ++ acts) (acts_more s n key act (accepted range) w e f g h)
          ∙ sym (append_assoc (acts_by s n key (accepted_below accepted range)) (acts_by s n key (accepted range)) (act ∷ []))

      at : (range < last → acts_by s n key (accepted_below longer last) ≡ acts_by s n key (accepted_below accepted last) ++ act ∷ [])
          → acts_by s n key (accepted_below longer last) ++ acts_by s n key (longer last) ≡ (acts_by s n key (accepted_below accepted last) ++ acts_by s n key (accepted last)) ++ act ∷ []
      at rest = dite (ℕ_discrete last range)
          (λ same. subst (λ r. acts_by s n key (accepted_below longer r) ++ acts_by s n key (longer r) ≡ (acts_by s n key (accepted_below accepted r) ++ acts_by s n key (accepted r)) ++ act ∷ []) (sym same) here)
          (λ other. (λ i. rest (omega (arith, low, other)) i ++ acts_by s n key (put_else accepted range (accepted range ++ w ∷ []) last other i))
          ∙ (λ i. (acts_by s n key (accepted_below accepted last) ++ act ∷ []) ++ none last other i) ∙ append-nil (acts_by s n key (accepted_below accepted last) ++ act ∷ [])
          ∙ ap (λ acts. acts ++ act ∷ []) (sym (ap (λ acts. acts_by s n key (accepted_below accepted last) ++ acts) (none last other) ∙ append-nil (acts_by s n key (accepted_below accepted last)))))
