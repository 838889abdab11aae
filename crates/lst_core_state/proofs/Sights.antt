-- What a begin sees of a chain: nothing here speaks of a state.
use Rattle.std.proofs.Common.{◌≡◌, ◌≢◌, ◌⊎◌, ℕ, suc, ◌+◌, ◌<◌, ◌≤◌, List, [], ◌∷◌, ◌++◌, Bool, true, false, cond, not, refl, sym, subst, ap, ◌∙◌, arith, inl, inr, ⊎_elim, true≢false, append_assoc, append-nil, ◌||◌, ◌&&◌, nat_lt, nat_le, eqb, lt-ltb, ltb-true, le-leb, leb-true, eq-eqb, ne_eqb, eqb-true}
use mathlib.Core.Logic.{dite}
use native.Mathlib.Decide.{ℕ_discrete}
use Rattle.lst_core_state.specs.Lists.{Has, acts, Pairs, Under, Below, Ordered, is_live, Fitting, Fitted}
use Rattle.lst_core_state.specs.Lists.{is_until}
use Rattle.lst_core_state.proofs.Lists.{acts_none, acts_same, acts_split, pairs_apart, ordered_pairs, below_has}

pub same_truth : (a b : Bool) → (a ≡ true → b ≡ true) → (b ≡ true → a ≡ true) → a ≡ b
same_truth true b f g = sym (f refl)
same_truth false true f g = g refl
same_truth false false f g = refl

pub is_false : (b : Bool) → ¬ (b ≡ true) → b ≡ false
is_false true h = absurd (h refl)
is_false false h = refl

and_says : (a b : Bool) → (a && b) ≡ true → (a ≡ true) × (b ≡ true)
and_says true true e = (refl, refl)
and_says true false e = absurd (true≢false (sym e))
and_says false b e = absurd (true≢false (sym e))

pub or_says : (a b : Bool) → (a || b) ≡ true → (a ≡ true) ⊎ (b ≡ true)
or_says true b e = inl refl
or_says false b e = inr e

pub or_left : (a b : Bool) → a ≡ true → (a || b) ≡ true
or_left a b e = ap (λ (c : Bool). c || b) e

pub or_right : (a b : Bool) → b ≡ true → (a || b) ≡ true
or_right true b e = refl
or_right false b e = e

pub until_says : (b x : ℕ) → is_until b x ≡ true → (1 < x) × (x ≤ b + 1)
until_says b x e = let q = and_says (nat_lt 1 x) (nat_le x (b + 1)) e in (ltb-true 1 x q.0, leb-true x (b + 1) q.1)

pub until_holds : (b x : ℕ) → 1 < x → x ≤ b + 1 → is_until b x ≡ true
until_holds b x some low = (λ i. lt-ltb 1 x some i && le-leb x (b + 1) low i)

pub until_not : (b x : ℕ) → (1 < x → b + 1 < x) → is_until b x ≡ false
until_not b x high = is_false (is_until b x) (λ e. let q = until_says b x e in let h = high q.0 in let g = q.1 in omega arith)

module _ {A : Type 0} (st bw W : ℕ → ℕ) (a : ℕ → A) (ys : List ℕ) (early : (y : ℕ) → Has y ys → 1 < st (W y) → bw (W y) < st (W y)) (ordered : Ordered st bw W ys) where
  Above : ℕ → ℕ → Type 0
  Above x y = st (W y) ≢ 1 → Under st bw W (W y) x

  -- what is committed by b + 1 is what is committed by b, and then what is committed at b + 1
  pub acts_until : (b : ℕ) → acts (λ t. is_until (suc b) (st (W t))) a ys ≡ acts (λ t. is_until b (st (W t))) a ys ++ acts (λ t. eqb (st (W t)) (suc b + 1)) a ys
  acts_until b = let p : ℕ → Bool = λ t. is_until b (st (W t)) in let q : ℕ → Bool = λ t. eqb (st (W t)) (suc b + 1) in acts_split p q (λ t. is_until (suc b) (st (W t))) a ys
      (λ t _. same_truth (is_until (suc b) (st (W t))) (p t || q t)
      (λ e. let s = until_says (suc b) (st (W t)) e in let low = s.0 in let high = s.1 in dite (ℕ_discrete (st (W t)) (suc b + 1)) (λ f. or_right (p t) (q t) (eq-eqb (st (W t)) (suc b + 1) f)) (λ f. or_left (p t) (q t) (until_holds b (st (W t)) low (omega arith))))
      (λ e. ⊎_elim (λ (f : p t ≡ true). let s = until_says b (st (W t)) f in let high = s.1 in until_holds (suc b) (st (W t)) s.0 (omega arith)) (λ (f : q t ≡ true). let s = eqb-true (st (W t)) (suc b + 1) f in until_holds (suc b) (st (W t)) (omega arith) (omega arith)) (or_says (p t) (q t) e)))
      (λ t _ e. let s = until_says b (st (W t)) e in let high = s.1 in ne_eqb (st (W t)) (suc b + 1) (λ f. omega arith))
      (pairs_apart p q ys (λ x y. st (W y) ≢ 1 → Under st bw W (W y) x) (ordered_pairs st bw W ys ordered)
      (λ x y i j above e. let s = until_says b (st (W y)) e in let low = s.0 in let high = s.1 in ne_eqb (st (W x)) (suc b + 1) (λ f. ⊎_elim
      (λ (g : W x ≡ W y). let h : st (W x) ≡ st (W y) = ap st g in omega arith)
      (λ (g : (1 < st (W x)) × (st (W x) ≤ bw (W y))). let h = early y j low in let k = g.1 in omega arith)
      (above (λ z. omega arith) (λ z. omega arith)))))

  -- what is visible is what is committed by b, and then what is own
  pub acts_sight : (b own : ℕ) → ¬ (is_until b (st own) ≡ true) → st own ≢ 1 → acts (λ t. is_until b (st (W t)) || eqb (W t) own) a ys ≡ acts (λ t. is_until b (st (W t))) a ys ++ acts (λ t. eqb (W t) own) a ys
  acts_sight b own unseen live = let p : ℕ → Bool = λ t. is_until b (st (W t)) in let q : ℕ → Bool = λ t. eqb (W t) own in acts_split p q (λ t. p t || q t) a ys (λ t _. refl)
      (λ t _ e. ne_eqb (W t) own (λ f. unseen (ap (λ (x : ℕ). is_until b (st x)) (sym f) ∙ e)))
      (pairs_apart p q ys (λ x y. st (W y) ≢ 1 → Under st bw W (W y) x) (ordered_pairs st bw W ys ordered)
      (λ x y i j above e. let s = until_says b (st (W y)) e in let low = s.0 in let high = s.1 in ne_eqb (W x) own (λ f. let same : st (W x) ≡ st own = ap st f in ⊎_elim
      (λ (g : W x ≡ W y). unseen (ap (λ (z : ℕ). is_until b (st z)) (sym f ∙ g) ∙ e))
      (λ (g : (1 < st (W x)) × (st (W x) ≤ bw (W y))). let h = early y j low in let k = g.1 in let d = g.0 in unseen (until_holds b (st own) (omega arith) (omega arith)))
      (above (λ z. omega arith) (λ z. live (sym same ∙ z))))))

-- under what was judged, what is not closed is what is visible
pub acts_live : {A : Type 0} (st bw W : ℕ → ℕ) (a : ℕ → A) (ys : List ℕ) (b own : ℕ) → bw own ≡ b + 1 → st own ≢ 1 → Below st bw W own ys → acts (λ t. not (eqb (st (W t)) 1)) a ys ≡ acts (λ t. is_until b (st (W t)) || eqb (W t) own) a ys
acts_live st bw W a ys b own begin open_own below = acts_same (λ t. is_until b (st (W t)) || eqb (W t) own) (λ t. not (eqb (st (W t)) 1)) a a ys
    (λ t i. same_truth (not (eqb (st (W t)) 1)) (is_until b (st (W t)) || eqb (W t) own)
    (λ e. ⊎_elim (λ (f : W t ≡ own). or_right (is_until b (st (W t))) (eqb (W t) own) (eq-eqb (W t) own f))
    (λ (f : (1 < st (W t)) × (st (W t) ≤ bw own)). or_left (is_until b (st (W t))) (eqb (W t) own) (until_holds b (st (W t)) f.0 (let g = f.1 in omega arith)))
    (below_has st bw W own ys below t i (λ z. true≢false (sym e ∙ ap not (eq-eqb (st (W t)) 1 z)))))
    (λ e. ap not (ne_eqb (st (W t)) 1 (⊎_elim (λ (f : is_until b (st (W t)) ≡ true). λ z. let s = until_says b (st (W t)) f in let g = s.0 in omega arith) (λ (f : eqb (W t) own ≡ true). λ z. open_own (ap st (sym (eqb-true (W t) own f)) ∙ z)) (or_says (is_until b (st (W t))) (eqb (W t) own) e)))))
    (λ _ _ _. refl)

-- a choice that takes some act takes some tail
pub acts_some : {A : Type 0} (p : ℕ → Bool) (a : ℕ → A) (ys : List ℕ) → acts p a ys ≢ [] → (t : ℕ) × Has t ys × (p t ≡ true)
acts_some p a [] some = absurd (some refl)
acts_some {A} p a (y ∷ ys) some = step (p y) refl (acts_some p a ys)
  where
    step : (b : Bool) → p y ≡ b → (acts p a ys ≢ [] → (t : ℕ) × Has t ys × (p t ≡ true)) → (t : ℕ) × Has t (y ∷ ys) × (p t ≡ true)
    step true e rest = (y, inl refl, e)
    step false e rest = let q = rest (λ n. some (ap (λ (b : Bool). cond b (acts p a ys ++ a y ∷ []) (acts p a ys)) e ∙ n)) in (q.0, inr q.1, q.2)

-- of two tails of a list one is lower, or they are one
pub two_of : (R : ℕ → ℕ → Type 0) (ys : List ℕ) → Pairs R ys → (x y : ℕ) → Has x ys → Has y ys → (x ≡ y) ⊎ (R x y ⊎ R y x)
two_of R [] pairs x y i j = absurd i
two_of R (z ∷ zs) pairs x y (inl e) (inl f) = inl (e ∙ sym f)
two_of R (z ∷ zs) pairs x y (inl e) (inr j) = inr (inr (subst (λ (q : ℕ). R y q) (sym e) (pairs.0 y j)))
two_of R (z ∷ zs) pairs x y (inr i) (inl f) = inr (inl (subst (λ (q : ℕ). R x q) (sym f) (pairs.0 x i)))
two_of R (z ∷ zs) pairs x y (inr i) (inr j) = two_of R zs pairs.1 x y i j

pub fitted_snoc : {A : Type 0} (F : List A → A → Type 0) (base xs : List A) (a : A) → Fitted F base xs → F (base ++ xs) a → Fitted F base (xs ++ a ∷ [])
fitted_snoc {A} F base [] a fitted fit = (subst (λ (l : List A). F l a) (append-nil base) fit, tt)
fitted_snoc {A} F base (x ∷ xs) a fitted fit = (fitted.0, fitted_snoc F (base ++ x ∷ []) xs a fitted.1 (subst (λ (l : List A). F l a) (sym (append_assoc base (x ∷ []) xs)) fit))

-- the acts of one transaction fit what it saw and its own acts before
pub fitted_line : {A : Type 0} (F : List A → A → Type 0) (st bw W : ℕ → ℕ) (a : ℕ → A) (b own : ℕ) → bw own ≡ b + 1 → ¬ (is_until b (st own) ≡ true) → st own ≢ 1 → (ys : List ℕ) → ((y : ℕ) → Has y ys → 1 < st (W y) → bw (W y) < st (W y)) → Ordered st bw W ys → Fitting F st W a ys
    → Fitted F (acts (λ t. is_until b (st (W t))) a ys) (acts (λ t. eqb (W t) own) a ys)
fitted_line F st bw W a b own begin unseen live [] early ordered fits = tt
fitted_line {A} F st bw W a b own begin unseen live (y ∷ ys) early ordered fits = dite (ℕ_discrete (W y) own)
    (λ e. let low : is_until b (st (W y)) ≡ false = is_false (is_until b (st (W y))) (λ g. unseen (ap (λ (x : ℕ). is_until b (st x)) (sym e) ∙ g)) in let here : st (W y) ≢ 1 = λ g. live (ap st (sym e) ∙ g) in
    let parts : acts (is_live st W) a ys ≡ acts p a ys ++ acts q a ys = acts_live st bw W a ys b own begin live (subst (λ (x : ℕ). Below st bw W x ys) e (ordered.0 here)) ∙ acts_sight st bw W a ys (λ z i. early z (inr i)) ordered.1 b own unseen live in
    subst (λ (c : Bool). Fitted F (cond c (acts p a ys ++ a y ∷ []) (acts p a ys)) (cond (eqb (W y) own) (acts q a ys ++ a y ∷ []) (acts q a ys))) (sym low)
    (subst (λ (c : Bool). Fitted F (acts p a ys) (cond c (acts q a ys ++ a y ∷ []) (acts q a ys))) (sym (eq-eqb (W y) own e))
    (fitted_snoc F (acts p a ys) (acts q a ys) (a y) (fitted_line F st bw W a b own begin unseen live ys (λ z i. early z (inr i)) ordered.1 fits.1) (subst (λ (l : List A). F l (a y)) parts (fits.0 here)))))
    (λ ne. subst (λ (c : Bool). Fitted F (cond (is_until b (st (W y))) (acts p a ys ++ a y ∷ []) (acts p a ys)) (cond c (acts q a ys ++ a y ∷ []) (acts q a ys))) (sym (ne_eqb (W y) own ne))
    (step (is_until b (st (W y))) refl (fitted_line F st bw W a b own begin unseen live ys (λ z i. early z (inr i)) ordered.1 fits.1)))
  where
    p : ℕ → Bool
    p = λ t. is_until b (st (W t))

    q : ℕ → Bool
    q = λ t. eqb (W t) own

    empty : is_until b (st (W y)) ≡ true → acts q a ys ≡ []
    empty e = let s = until_says b (st (W y)) e in let low = s.0 in let high = s.1 in acts_none q a ys (λ t i. ne_eqb (W t) own (λ f. let same : st (W t) ≡ st own = ap st f in ⊎_elim
        (λ (g : W t ≡ W y). unseen (ap (λ (x : ℕ). is_until b (st x)) (sym f ∙ g) ∙ e))
        (λ (g : (1 < st (W t)) × (st (W t) ≤ bw (W y))). let h = early y (inl refl) low in let k = g.1 in let d = g.0 in unseen (until_holds b (st own) (omega arith) (omega arith)))
        (below_has st bw W (W y) ys (ordered.0 (λ z. omega arith)) t i (λ z. live (sym same ∙ z)))))

    step : (c : Bool) → is_until b (st (W y)) ≡ c → Fitted F (acts p a ys) (acts q a ys) → Fitted F (cond c (acts p a ys ++ a y ∷ []) (acts p a ys)) (acts q a ys)
    step true e fitted = subst (λ (l : List A). Fitted F (acts p a ys ++ a y ∷ []) l) (sym (empty e)) tt
    step false e fitted = fitted
