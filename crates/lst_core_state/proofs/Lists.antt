-- Chains as lists: nothing here speaks of a state.
use Rattle.std.proofs.Common.{◌≡◌, ◌≢◌, ◌⊎◌, ℕ, zero, suc, ◌<◌, ◌≤◌, List, [], ◌∷◌, ◌++◌, Bool, true, false, cond, refl, sym, subst, ap, ◌∙◌, arith, inl, inr, ⊎_elim, true≢false, append_assoc, append-nil, ◌||◌, not, eqb, ne_eqb}
use mathlib.Core.Logic.{dite}
use native.Mathlib.Decide.{ℕ_discrete}
use Rattle.lst_core_state.specs.Lists.{Has, chain, Links, acts, down, Apart, Pairs, Under, Below, Ordered, Judged, is_live, Fitting}

-- no chain holds more than its first tail
pub links_low : (back : ℕ → ℕ) (h : ℕ) (ys : List ℕ) → Links back h ys → (t : ℕ) → Has t ys → t ≤ h
links_low back h [] l t none = absurd none
links_low back h (x ∷ xs) l t (inl e) = let f : h ≡ x = l.0 in omega arith
links_low back h (x ∷ xs) l t (inr in_rest) = let f : h ≡ x = l.0 in let low = l.2 in let q = links_low back (back x) xs l.3 t in_rest in omega arith

pub links_positive : (back : ℕ → ℕ) (h : ℕ) (ys : List ℕ) → Links back h ys → (t : ℕ) → Has t ys → 0 < t
links_positive back h [] l t none = absurd none
links_positive back h (x ∷ xs) l t (inl e) = let p = l.1 in omega arith
links_positive back h (x ∷ xs) l t (inr in_rest) = links_positive back (back x) xs l.3 t in_rest

-- there is one list of links, and the chain by fuel is it
pub links_chain : (back : ℕ → ℕ) (f h : ℕ) (ys : List ℕ) → h ≤ f → Links back h ys → chain f back h ≡ ys
links_chain back zero h [] low l = refl
links_chain back zero h (x ∷ xs) low l = let e = l.0 in let p = l.1 in absurd (omega arith)
links_chain back (suc f) zero [] low l = refl
links_chain back (suc f) (suc m) [] low l = absurd (omega arith)
links_chain back (suc f) zero (x ∷ xs) low l = let e = l.0 in let p = l.1 in absurd (omega arith)
links_chain back (suc f) (suc m) (x ∷ xs) low l = let e : suc m ≡ x = l.0 in let falls = l.2 in
    ap (λ (y : ℕ). y ∷ chain f back (back y)) e ∙ ap (λ (r : List ℕ). x ∷ r) (links_chain back f (back x) xs (omega arith) l.3)

-- the first of a list of links
pub first_link : (back : ℕ → ℕ) (t : ℕ) (rest : List ℕ) → Links back t rest → 0 < t → (ys : List ℕ) × (rest ≡ t ∷ ys) × (back t < t) × Links back (back t) ys
first_link back t [] links some = absurd (let e : t ≡ 0 = links in omega arith)
first_link back t (x ∷ xs) links some = let e : t ≡ x = links.0 in (xs, ap (λ (y : ℕ). y ∷ xs) (sym e), subst (λ (y : ℕ). back y < y) (sym e) links.2, subst (λ (y : ℕ). Links back (back y) xs) (sym e) links.3)

-- the back words matter only on the list
pub links_same : (back back' : ℕ → ℕ) (h : ℕ) (ys : List ℕ) → ((t : ℕ) → Has t ys → back' t ≡ back t) → Links back h ys → Links back' h ys
links_same back back' h [] same l = l
links_same back back' h (x ∷ xs) same l = let e : back' x ≡ back x = same x (inl refl) in
    (l.0, l.1, subst (λ (z : ℕ). z < x) (sym e) l.2, subst (λ (z : ℕ). Links back' z xs) (sym e) (links_same back back' (back x) xs (λ t i. same t (inr i)) l.3))

-- the acts of all numbers from n down are those of a falling list that has all numbers taken
pub acts_all : {A : Type 0} (p : ℕ → Bool) (a : ℕ → A) (back : ℕ → ℕ) (n h : ℕ) (ys : List ℕ) → Links back h ys → h ≤ n → ((t : ℕ) → t ≤ n → p t ≡ true → Has t ys) → acts p a (down n) ≡ acts p a ys
acts_all p a back zero h [] l low all = refl
acts_all p a back zero h (x ∷ xs) l low all = let e = l.0 in let q = l.1 in absurd (omega arith)
acts_all {A} p a back (suc n) h ys l low all = dite (ℕ_discrete h (suc n))
    (λ e. first ys l all e (acts_all p a back n))
    (λ ne. skip (p (suc n)) refl (λ taken. let q = links_low back h ys l (suc n) (all (suc n) (omega arith) taken) in omega arith) ∙ acts_all p a back n h ys l (omega arith) (λ t at taken. all t (omega arith) taken))
  where
    skip : (b : Bool) → p (suc n) ≡ b → (¬ (p (suc n) ≡ true)) → cond b (acts p a (down n) ++ a (suc n) ∷ []) (acts p a (down n)) ≡ acts p a (down n)
    skip true e none = absurd (none e)
    skip false e none = refl

    rest : (x : ℕ) (xs : List ℕ) → Links back h (x ∷ xs) → ((t : ℕ) → t ≤ suc n → p t ≡ true → Has t (x ∷ xs)) → h ≡ suc n → (t : ℕ) → t ≤ n → p t ≡ true → Has t xs
    rest x xs l all e t at taken = ⊎_elim (λ (f : t ≡ x). let g = l.0 in absurd (omega arith)) (λ (i : Has t xs). i) (all t (omega arith) taken)

    first : (ys : List ℕ) → Links back h ys → ((t : ℕ) → t ≤ suc n → p t ≡ true → Has t ys) → h ≡ suc n
        → ((h : ℕ) (ys : List ℕ) → Links back h ys → h ≤ n → ((t : ℕ) → t ≤ n → p t ≡ true → Has t ys) → acts p a (down n) ≡ acts p a ys) → acts p a (down (suc n)) ≡ acts p a ys
    first [] l all e again = let z : h ≡ 0 = l in absurd (omega arith)
    first (x ∷ xs) l all e again = let f : suc n ≡ x = sym e ∙ l.0 in let falls = l.2 in let same : acts p a (down n) ≡ acts p a xs = again (back x) xs l.3 (omega arith) (rest x xs l all e) in
        (λ i. cond (p (f i)) (same i ++ a (f i) ∷ []) (same i))

-- no tail is taken
pub acts_none : {A : Type 0} (p : ℕ → Bool) (a : ℕ → A) (ys : List ℕ) → ((t : ℕ) → Has t ys → p t ≡ false) → acts p a ys ≡ []
acts_none p a [] none = refl
acts_none {A} p a (y ∷ ys) none = ap (λ (b : Bool). cond b (acts p a ys ++ a y ∷ []) (acts p a ys)) (none y (inl refl)) ∙ acts_none p a ys (λ t i. none t (inr i))

-- the choice and the acts matter only on the list
pub acts_same : {A : Type 0} (p q : ℕ → Bool) (a a' : ℕ → A) (ys : List ℕ) → ((t : ℕ) → Has t ys → q t ≡ p t) → ((t : ℕ) → Has t ys → p t ≡ true → a' t ≡ a t) → acts q a' ys ≡ acts p a ys
acts_same p q a a' [] same alike = refl
acts_same {A} p q a a' (y ∷ ys) same alike = ap (λ (b : Bool). cond b (acts q a' ys ++ a' y ∷ []) (acts q a' ys)) (same y (inl refl)) ∙ step (acts_same p q a a' ys (λ t i. same t (inr i)) (λ t i. alike t (inr i))) (p y) refl
  where
    step : acts q a' ys ≡ acts p a ys → (b : Bool) → p y ≡ b → cond b (acts q a' ys ++ a' y ∷ []) (acts q a' ys) ≡ cond b (acts p a ys ++ a y ∷ []) (acts p a ys)
    step rest true e = λ i. rest i ++ alike y (inl refl) e i ∷ []
    step rest false e = rest

-- a choice that is two choices, the first of which lies below the second
pub acts_split : {A : Type 0} (p q r : ℕ → Bool) (a : ℕ → A) (ys : List ℕ) → ((t : ℕ) → Has t ys → r t ≡ (p t || q t)) → ((t : ℕ) → Has t ys → p t ≡ true → q t ≡ false) → Apart p q ys → acts r a ys ≡ acts p a ys ++ acts q a ys
acts_split p q r a [] union once apart = refl
acts_split {A} p q r a (y ∷ ys) union once apart = ap (λ (b : Bool). cond b (acts r a ys ++ a y ∷ []) (acts r a ys)) (union y (inl refl))
    ∙ step (acts_split p q r a ys (λ t i. union t (inr i)) (λ t i. once t (inr i)) apart.1) (p y) (q y) refl refl
  where
    empty : p y ≡ true → acts q a ys ≡ []
    empty e = acts_none q a ys (apart.0 e)

    step : acts r a ys ≡ acts p a ys ++ acts q a ys → (b c : Bool) → p y ≡ b → q y ≡ c
        → cond (b || c) (acts r a ys ++ a y ∷ []) (acts r a ys) ≡ cond b (acts p a ys ++ a y ∷ []) (acts p a ys) ++ cond c (acts q a ys ++ a y ∷ []) (acts q a ys)
    step rest true true e f = absurd (true≢false (sym f ∙ once y (inl refl) e))
    step rest true false e f = ap (λ (l : List A). l ++ a y ∷ []) (rest ∙ ap (λ (l : List A). acts p a ys ++ l) (empty e) ∙ append-nil (acts p a ys)) ∙ (sym (append-nil (acts p a ys ++ a y ∷ [])) ∙ ap (λ (l : List A). (acts p a ys ++ a y ∷ []) ++ l) (sym (empty e)))
    step rest false true e f = ap (λ (l : List A). l ++ a y ∷ []) rest ∙ append_assoc (acts p a ys) (acts q a ys) (a y ∷ [])
    step rest false false e f = rest

-- the same by a relation between each tail and those below it
pub pairs_apart : (p q : ℕ → Bool) (ys : List ℕ) (R : ℕ → ℕ → Type 0) → Pairs R ys → ((x y : ℕ) → Has x ys → Has y ys → R x y → p y ≡ true → q x ≡ false) → Apart p q ys
pairs_apart p q [] R pairs no_more = tt
pairs_apart p q (y ∷ ys) R pairs no_more = (λ e x i. no_more x y (inr i) (inl refl) (pairs.0 x i) e, pairs_apart p q ys R pairs.1 (λ x z i j. no_more x z (inr i) (inr j)))

module _ (st bw W : ℕ → ℕ) where
  pub below_has : (own : ℕ) (ys : List ℕ) → Below st bw W own ys → (x : ℕ) → Has x ys → Under st bw W own x
  below_has own [] below x none = absurd none
  below_has own (y ∷ ys) below x (inl e) = subst (λ (z : ℕ). Under st bw W own z) (sym e) below.0
  below_has own (y ∷ ys) below x (inr i) = below_has own ys below.1 x i

  pub below_each : (own : ℕ) (ys : List ℕ) → ((x : ℕ) → Has x ys → Under st bw W own x) → Below st bw W own ys
  below_each own [] each = tt
  below_each own (y ∷ ys) each = (each y (inl refl), below_each own ys (λ x i. each x (inr i)))

  pub ordered_pairs : (ys : List ℕ) → Ordered st bw W ys → Pairs (λ x y. st (W y) ≢ 1 → Under st bw W (W y) x) ys
  ordered_pairs [] ordered = tt
  ordered_pairs (y ∷ ys) ordered = (λ x i live. below_has (W y) ys (ordered.0 live) x i, ordered_pairs ys ordered.1)

  -- judging the first version that is not closed judges all
  pub judged_below : (own : ℕ) (ys : List ℕ) → ((y : ℕ) → Has y ys → 1 < st (W y) → bw (W y) < st (W y)) → Ordered st bw W ys → Judged st bw W own ys → Below st bw W own ys
  judged_below own [] early ordered judged = tt
  judged_below own (y ∷ ys) early ordered judged = dite (ℕ_discrete (st (W y)) 1)
      (λ e. (judged.0, judged_below own ys (λ z i. early z (inr i)) ordered.1 (judged.1 e)))
      (λ live. (
        judged.0,
        below_each own ys (λ x i other. ⊎_elim
            (λ (e : W x ≡ W y). subst (λ (z : ℕ). (z ≡ own) ⊎ ((1 < st z) × (st z ≤ bw own))) (sym e) (judged.0 live))
            (λ (e : (1 < st (W x)) × (st (W x) ≤ bw (W y))). ⊎_elim
            (λ (f : W y ≡ own). inr (e.0, subst (λ (z : ℕ). st (W x) ≤ bw z) f e.1))
            (λ (f : (1 < st (W y)) × (st (W y) ≤ bw own)). inr (e.0, let q = early y (inl refl) f.0 in let r = e.1 in let g = f.1 in omega arith))
            (judged.0 live))
            (below_has (W y) ys (ordered.0 live) x i other)),
      ))

-- every kind of step: a state word changes only where it was 0
module _ (st bw W st' bw' W' : ℕ → ℕ) where
  under_step : (own x : ℕ) → bw' own ≡ bw own → W' x ≡ W x → ((st' (W x) ≡ st (W x)) ⊎ (st (W x) ≡ 0)) → Under st bw W own x → Under st' bw' W' own x
  under_step own x b e s under live = ⊎_elim
      (λ (f : W x ≡ own). inl (e ∙ f))
      (λ (f : (1 < st (W x)) × (st (W x) ≤ bw own)). let g : st' (W' x) ≡ st (W x) = ap st' e ∙ ⊎_elim (λ (q : st' (W x) ≡ st (W x)). q) (λ (q : st (W x) ≡ 0). let h = f.0 in absurd (omega arith)) s in inr (let h = f.0 in omega arith, let h = f.1 in omega arith))
      (under (λ closed. ⊎_elim (λ (q : st' (W x) ≡ st (W x)). live (ap st' e ∙ q ∙ closed)) (λ (q : st (W x) ≡ 0). omega arith) s))

  pub below_step : (own : ℕ) (ys : List ℕ) → bw' own ≡ bw own → ((x : ℕ) → Has x ys → (W' x ≡ W x) × ((st' (W x) ≡ st (W x)) ⊎ (st (W x) ≡ 0))) → Below st bw W own ys → Below st' bw' W' own ys
  below_step own ys b each below = below_each st' bw' W' own ys (λ x i. under_step own x b (each x i).0 (each x i).1 (below_has st bw W own ys below x i))

  pub ordered_step : (ys : List ℕ) → ((x : ℕ) → Has x ys → (W' x ≡ W x) × (bw' (W x) ≡ bw (W x)) × ((st' (W x) ≡ st (W x)) ⊎ (st (W x) ≡ 0))) → Ordered st bw W ys → Ordered st' bw' W' ys
  ordered_step [] each ordered = tt
  ordered_step (y ∷ ys) each ordered = (
    λ live. let h = each y (inl refl) in subst (λ (z : ℕ). Below st' bw' W' z ys) (sym h.0) (below_step (W y) ys h.1 (λ x i. let g = each x (inr i) in (g.0, g.2))
        (ordered.0 (λ closed. ⊎_elim (λ (q : st' (W y) ≡ st (W y)). live (ap st' h.0 ∙ q ∙ closed)) (λ (q : st (W y) ≡ 0). omega arith) h.2))),
    ordered_step ys (λ x i. each x (inr i)) ordered.1,
  )

module _ {A : Type 0} (F : List A → A → Type 0) (st bw W st' W' : ℕ → ℕ) (a a' : ℕ → A) where
  pub fitting_step : (ys : List ℕ) → ((x : ℕ) → Has x ys → (W' x ≡ W x) × (a' x ≡ a x) × ((st' (W x) ≡ st (W x)) ⊎ (st (W x) ≡ 0))) → Ordered st bw W ys → Fitting F st W a ys → Fitting F st' W' a' ys
  fitting_step [] each ordered fits = tt
  fitting_step (y ∷ ys) each ordered fits = (
    λ live. let h = each y (inl refl) in
        let was : st (W y) ≢ 1 = λ closed. ⊎_elim (λ (q : st' (W y) ≡ st (W y)). live (ap st' h.0 ∙ q ∙ closed)) (λ (q : st (W y) ≡ 0). omega arith) h.2 in
        subst (λ (z : A). F (acts (is_live st' W') a' ys) z) (sym h.1) (subst (λ (l : List A). F l (a y)) (sym (acts_same (is_live st W) (is_live st' W') a a' ys
        (λ t i. let g = each t (inr i) in ⊎_elim
        (λ (q : st' (W t) ≡ st (W t)). ap (λ (z : ℕ). not (eqb z 1)) (ap st' g.0 ∙ q))
        (λ (q : st (W t) ≡ 0). let now : st' (W' t) ≢ 1 = ⊎_elim (λ (e : W t ≡ W y). λ closed. live (ap st' (h.0 ∙ sym e ∙ sym g.0) ∙ closed)) (λ (e : (1 < st (W t)) × (st (W t) ≤ bw (W y))). let k = e.0 in absurd (omega arith)) (below_has st bw W (W y) ys (ordered.0 was) t i (λ z. omega arith)) in
        ap not (ne_eqb (st' (W' t)) 1 now) ∙ sym (ap not (ne_eqb (st (W t)) 1 (λ z. omega arith))))
        g.2)
        (λ t i _. (each t (inr i)).1))) (fits.0 was)),
    fitting_step ys (λ x i. each x (inr i)) ordered.1 fits.1,
  )
