-- A page's entry is what a reader sees of a record's chain.
use Rattle.std.proofs.Common.{◌≡◌, ℕ, zero, suc, ◌+◌, ◌<◌, ◌≤◌, List, [], ◌∷◌, ◌++◌, Bool, true, false, cond, refl, sym, subst, ap, ◌∙◌, arith, inl, inr, true≢false, append_assoc, append-nil, length, take, nat_lt, ◌&&◌, ltb-true, lt-ltb, eq-eqb, None}
use mathlib.Core.Logic.{dite}
use native.Mathlib.Decide.{ℕ_discrete}
use Rattle.lst_model.specs.Histories.{row_from}
use Rattle.lst_model.specs.Soundness.{FitInTurn}
use Rattle.lst_model.specs.declared.acts.Act.{Act}
use Rattle.lst_core_state.specs.Lists.{Has, Links, acts, down}
use Rattle.lst_core_state.proofs.Lists.{links_low, links_positive, acts_none, acts_same}
use Rattle.lst_pages.specs.Lists.{Every}
use Rattle.lst_pages.specs.declared.tails.PageTail.{PageTail}
use Rattle.lst_pages.specs.declared.entries.Entry.{Entry}
use Rattle.lst_pages.specs.Tails.{touches_column, is_on, touches}
use Rattle.lst_pages.specs.Entries.{blank, entry_by, folded}
use Rattle.lst_pages.specs.Rows.{act_of, column_of}
use Rattle.lst_pages.specs.Chains.{Told, IsWalked, entry_at, EntryIsSeen, EntryIsAnswer}
use Rattle.lst_pages.proofs.Folds.{folded-append}
use Rattle.lst_pages.proofs.Rows.{acts_of, acts-of, folded_column}

-- ---- lists

module _ {A : Type 0} where
  every_snoc : (P : A → Type 0) (xs : List A) (y : A) → Every P xs → P y → Every P (xs ++ y ∷ [])
  every_snoc P [] y a p = (p, tt)
  every_snoc P (x ∷ xs) y a p = (a.0, every_snoc P xs y a.1 p)

  -- a chain in two parts
  pub acts-append : (p : ℕ → Bool) (a : ℕ → A) (xs ys : List ℕ) → acts p a (xs ++ ys) ≡ acts p a ys ++ acts p a xs
  acts-append p a [] ys = sym (append-nil (acts p a ys))
  acts-append p a (x ∷ xs) ys = step (p x) (acts-append p a xs ys)
    where
      step : (b : Bool) → acts p a (xs ++ ys) ≡ acts p a ys ++ acts p a xs → cond b (acts p a (xs ++ ys) ++ a x ∷ []) (acts p a (xs ++ ys)) ≡ acts p a ys ++ cond b (acts p a xs ++ a x ∷ []) (acts p a xs)
      step true e = ap (λ (zs : List A). zs ++ a x ∷ []) e ∙ append_assoc (acts p a ys) (acts p a xs) (a x ∷ [])
      step false e = e

  every_acts : (P : A → Type 0) (p : ℕ → Bool) (a : ℕ → A) (ys : List ℕ) → ((t : ℕ) → Has t ys → p t ≡ true → P (a t)) → Every P (acts p a ys)
  every_acts P p a [] f = tt
  every_acts P p a (y ∷ ys) f = step (p y) refl (every_acts P p a ys (λ t i. f t (inr i)))
    where
      step : (b : Bool) → p y ≡ b → Every P (acts p a ys) → Every P (cond b (acts p a ys ++ a y ∷ []) (acts p a ys))
      step true e each = every_snoc P (acts p a ys) (a y) each (f y (inl refl) e)
      step false e each = each

abbrev every : ℕ → Bool
every t = true

-- the settled tails up to p, by number
told_take : (a : ℕ → PageTail) (p : ℕ) (ts : List PageTail) → Told a 0 (take p ts) → p ≤ length ts → take p ts ≡ acts every a (down p)
told_take a p ts told low = from 0 p ts told low ∙ ups p
  where
    up : ℕ → ℕ → List PageTail
    up n zero = []
    up n (suc k) = a (suc n) ∷ up (suc n) k

    from : (n p : ℕ) (ts : List PageTail) → Told a n (take p ts) → p ≤ length ts → take p ts ≡ up n p
    from n zero ts told low = refl
    from n (suc p) [] told low = absurd (omega arith)
    from n (suc p) (t ∷ ts) told low = (λ i. told.0 i ∷ from (suc n) p ts told.1 (omega arith) i)

    last : (n k m : ℕ) → m ≡ suc (n + k) → up n (suc k) ≡ up n k ++ a m ∷ []
    last n zero m e = let f : suc n ≡ m = omega arith in (λ i. a (f i) ∷ [])
    last n (suc k) m e = ap (λ (xs : List PageTail). a (suc n) ∷ xs) (last (suc n) k m (omega arith))

    ups : (k : ℕ) → up 0 k ≡ acts every a (down k)
    ups zero = refl
    ups (suc k) = last 0 k (suc k) (omega arith) ∙ ap (λ (xs : List PageTail). xs ++ a (suc k) ∷ []) (ups k)

-- ---- folds over chains

-- of tails that r takes, those of which q holds are folded
folded-acts : (q : PageTail → Bool) (r : ℕ → Bool) (c : ℕ) (a : ℕ → PageTail) (ys : List ℕ) → folded q c blank (acts r a ys) ≡ folded (λ t. true) c blank (acts (λ t. r t && q (a t)) a ys)
folded-acts q r c a [] = refl
folded-acts q r c a (y ∷ ys) = step (acts r a ys) (acts (λ t. r t && q (a t)) a ys) (folded-acts q r c a ys) (r y) (q (a y)) refl
  where
    step : (old new : List PageTail) → folded q c blank old ≡ folded (λ t. true) c blank new → (x z : Bool) → q (a y) ≡ z → folded q c blank (cond x (old ++ a y ∷ []) old) ≡ folded (λ t. true) c blank (cond (x && q (a y)) (new ++ a y ∷ []) new)
    step old new same false z e = same
    step old new same true true e = folded-append q c blank old (a y ∷ []) ∙ (λ i. cond (e i) (entry_by c (a y)) (same i)) ∙ sym (folded-append (λ t. true) c blank new (a y ∷ []))
        ∙ ap (λ (b : Bool). folded (λ t. true) c blank (cond b (new ++ a y ∷ []) new)) (sym e)
    step old new same true false e = folded-append q c blank old (a y ∷ []) ∙ (λ i. cond (e i) (entry_by c (a y)) (same i)) ∙ ap (λ (b : Bool). folded (λ t. true) c blank (cond b (new ++ a y ∷ []) new)) (sym e)

-- the newest tail that r takes makes the entry
newest : (r : ℕ → Bool) (c : ℕ) (a : ℕ → PageTail) (y : ℕ) (ys : List ℕ) → r y ≡ true → folded (λ t. true) c blank (acts r a (y ∷ ys)) ≡ entry_by c (a y)
newest r c a y ys e = ap (λ (b : Bool). folded (λ t. true) c blank (cond b (acts r a ys ++ a y ∷ []) (acts r a ys))) e ∙ folded-append (λ t. true) c blank (acts r a ys) (a y ∷ [])

older : (r : ℕ → Bool) (c : ℕ) (a : ℕ → PageTail) (y : ℕ) (ys : List ℕ) → r y ≡ false → folded (λ t. true) c blank (acts r a (y ∷ ys)) ≡ folded (λ t. true) c blank (acts r a ys)
older r c a y ys e = ap (λ (b : Bool). folded (λ t. true) c blank (cond b (acts r a ys ++ a y ∷ []) (acts r a ys))) e

-- where r takes the tail t of a falling chain, and none above it, t makes the entry
last_makes : (r : ℕ → Bool) (c : ℕ) (a : ℕ → PageTail) (back : ℕ → ℕ) (h t : ℕ) (ys : List ℕ) → Links back h ys → Has t ys → r t ≡ true → ((u : ℕ) → Has u ys → t < u → r u ≡ false)
    → folded (λ t. true) c blank (acts r a ys) ≡ entry_by c (a t)
last_makes r c a back h t [] l none taken rest = absurd none
last_makes r c a back h t (y ∷ ys) l (inl e) taken rest = newest r c a y ys (ap r (sym e) ∙ taken) ∙ ap (λ (k : ℕ). entry_by c (a k)) (sym e)
last_makes r c a back h t (y ∷ ys) l (inr i) taken rest = let low = links_low back (back y) ys l.3 t i in let falls = l.2 in
    older r c a y ys (rest y (inl refl) (omega arith)) ∙ last_makes r c a back (back y) t ys l.3 i taken (λ u j up. rest u (inr j) up)

and_says : (a b : Bool) → (a && b) ≡ true → (a ≡ true) × (b ≡ true)
and_says true true e = (refl, refl)
and_says true false e = absurd (true≢false (sym e))
and_says false b e = absurd (true≢false (sym e))

module _ (c i b p n : ℕ) (back : ℕ → ℕ) (a : ℕ → PageTail) (is_visible : ℕ → Bool) (ts : List PageTail) (above zs : List ℕ) (walk : IsWalked c i b p n back a is_visible ts above zs) (early : (entry_at c i p ts).time ≤ b) where
  abbrev seen : ℕ → Bool
  seen t = is_visible t && is_on c i (a t)

  abbrev took : ℕ → Bool
  took t = touches c i (a t)

  abbrev fold_of : List PageTail → Entry
  fold_of us = folded (touches c i) c blank us

  abbrev fold_at : ℕ → Entry
  fold_at m = folded (λ t. true) c blank (acts took a (down m))

  is_fold : entry_at c i p ts ≡ fold_at p
  is_fold = ap fold_of (told_take a p ts walk.told walk.settled) ∙ folded-acts (touches c i) every c a (down p)

  both : (x y : Bool) → x ≡ true → y ≡ true → (x && y) ≡ true
  both x y e f = (λ k. e k && f k)

  -- what the reader sees below is committed and touches the column
  seen_took : (t : ℕ) → Has t zs → seen t ≡ true → took t ≡ true
  seen_took t h e = let q = and_says (is_visible t) (is_on c i (a t)) e in both (nat_lt 0 (a t).time) (is_on c i (a t)) (lt-ltb 0 (a t).time (walk.only t h q.0)) q.1

  not_seen : (t : ℕ) → Has t zs → took t ≡ false → seen t ≡ false
  not_seen t h e = choose (seen t) refl
    where
      choose : (x : Bool) → seen t ≡ x → seen t ≡ false
      choose true s = absurd (true≢false (sym (seen_took t h s) ∙ e))
      choose false s = s

  low : (t : ℕ) → Has t zs → t ≤ p
  low t h = let at = links_low back n zs walk.links t h in let q = walk.low in omega arith

  -- down from p, the first tail that is committed and touches the column is the last one that the reader sees
  from : (m : ℕ) → m ≤ p → ((u : ℕ) → m < u → u ≤ p → took u ≡ false) → (fold_at m).time ≤ b → folded (λ t. true) c blank (acts seen a zs) ≡ fold_at m
  from zero at none e = ap (λ (xs : List PageTail). folded (λ t. true) c blank xs) (acts_none seen a zs (λ t h. not_seen t h (none t (links_positive back n zs walk.links t h) (low t h))))
  from (suc m) at none e = choose (took (suc m)) refl (λ above early. from m (omega arith) above early)
    where
      choose : (x : Bool) → took (suc m) ≡ x → (((u : ℕ) → m < u → u ≤ p → took u ≡ false) → (fold_at m).time ≤ b → folded (λ t. true) c blank (acts seen a zs) ≡ fold_at m)
          → folded (λ t. true) c blank (acts seen a zs) ≡ fold_at (suc m)
      choose true is again = let made = newest took c a (suc m) (down m) is in let timely : (a (suc m)).time ≤ b = subst (λ (f : Entry). f.time ≤ b) made e in
          let has = walk.has (suc m) (omega arith) at is timely none in let q = and_says (nat_lt 0 (a (suc m)).time) (is_on c i (a (suc m))) is in
          last_makes seen c a back n (suc m) zs walk.links has (both (is_visible (suc m)) (is_on c i (a (suc m))) (walk.until (suc m) has (ltb-true 0 (a (suc m)).time q.0) timely) q.1)
          (λ u h up. not_seen u h (none u up (low u h))) ∙ sym made
      choose false is again = let same = older took c a (suc m) (down m) is in
          again (λ u up short. dite (ℕ_discrete u (suc m)) (λ f. ap took f ∙ is) (λ other. none u (omega arith) short)) (subst (λ (f : Entry). f.time ≤ b) same e) ∙ sym same

  pub entry_seen : folded (λ t. true) c blank (acts (λ t. is_visible t && is_on c i (a t)) a (above ++ zs)) ≡ entry_at c i p ts
  entry_seen = ap (λ (xs : List PageTail). folded (λ t. true) c blank xs)
      (acts-append seen a above zs ∙ ap (λ (xs : List PageTail). acts seen a zs ++ xs) (acts_none seen a above walk.passed) ∙ append-nil (acts seen a zs))
      ∙ from p (omega arith) (λ u up short. absurd (omega arith)) (subst (λ (f : Entry). f.time ≤ b) is_fold early) ∙ sym is_fold

  pub entry_answer : (columns : ℕ) → c < columns → ((t : ℕ) → Has t (above ++ zs) → ((a t).slot ≡ i) × (length (a t).values ≡ columns)) → FitInTurn None (acts is_visible (λ t. act_of (a t)) (above ++ zs))
      → (entry_at c i p ts).cell ≡ column_of c (row_from None (acts is_visible (λ t. act_of (a t)) (above ++ zs)))
  entry_answer columns short here fits = sym (ap (λ (e : Entry). e.cell) is) ∙ answer ∙ ap (λ (xs : List Act). column_of c (row_from None xs)) (sym (acts-of is_visible a (above ++ zs)))
    where
      visible : List PageTail
      visible = acts is_visible a (above ++ zs)

      is : folded (λ t. touches_column c t.kind t.mask) c blank visible ≡ entry_at c i p ts
      is = folded-acts (λ t. touches_column c t.kind t.mask) is_visible c a (above ++ zs)
          ∙ ap (λ (xs : List PageTail). folded (λ t. true) c blank xs) (acts_same (λ t. is_visible t && is_on c i (a t)) (λ t. is_visible t && touches_column c (a t).kind (a t).mask) a a (above ++ zs)
          (λ t h. ap (λ (x : Bool). is_visible t && (x && touches_column c (a t).kind (a t).mask)) (sym (eq-eqb (a t).slot i (here t h).0))) (λ _ _ _. refl))
          ∙ entry_seen

      answer : (folded (λ t. touches_column c t.kind t.mask) c blank visible).cell ≡ column_of c (row_from None (acts_of visible))
      answer = folded_column columns c short blank None visible (every_acts (λ (t : PageTail). length t.values ≡ columns) is_visible a (above ++ zs) (λ t h _. (here t h).1)) tt refl (subst (FitInTurn None) (acts-of is_visible a (above ++ zs)) fits)

pub entry_is_seen : EntryIsSeen
entry_is_seen c i b p n back a is_visible ts above rest walk early = entry_seen c i b p n back a is_visible ts above rest walk early

pub entry_is_answer : EntryIsAnswer
entry_is_answer c i b p n back a is_visible ts above rest walk early = entry_answer c i b p n back a is_visible ts above rest walk early

-- ---- for the crates above: what gives the premises

-- a walk that has passed the tails of xs is at the rest of the chain
pub links_split : (back : ℕ → ℕ) (h : ℕ) (xs zs : List ℕ) → Links back h (xs ++ zs) → (n : ℕ) × Links back n zs
links_split back h [] zs l = (h, l)
links_split back h (x ∷ xs) zs l = links_split back (back x) xs zs l.3

pub has_split : (p t : ℕ) (xs zs : List ℕ) → Every (λ x. p < x) xs → t ≤ p → Has t (xs ++ zs) → Has t zs
has_split p t [] zs above low has = has
has_split p t (x ∷ xs) zs above low (inl e) = let h = above.0 in absurd (omega arith)
has_split p t (x ∷ xs) zs above low (inr has) = has_split p t xs zs above.1 low has

-- the list of settled tails is told by what it is told by, up to its end
pub told_same : (a a' : ℕ → PageTail) (n : ℕ) (ts : List PageTail) → ((t : ℕ) → n < t → t ≤ n + length ts → a' t ≡ a t) → Told a n ts → Told a' n ts
told_same a a' n [] same told = tt
told_same a a' n (t ∷ ts) same told = (told.0 ∙ sym (same (suc n) (omega arith) (omega arith)), told_same a a' (suc n) ts (λ k low high. same k (omega arith) (omega arith)) told.1)

-- and so are its first ones
pub told_front : (a : ℕ → PageTail) (n p : ℕ) (ts : List PageTail) → Told a n ts → Told a n (take p ts)
told_front a n zero ts told = tt
told_front a n (suc p) [] told = tt
told_front a n (suc p) (t ∷ ts) told = (told.0, told_front a (suc n) p ts told.1)

-- the next one
pub told_snoc : (a : ℕ → PageTail) (n k : ℕ) (ts : List PageTail) (t : PageTail) → k ≡ suc (n + length ts) → t ≡ a k → Told a n ts → Told a n (ts ++ t ∷ [])
told_snoc a n k [] t e is told = let f : k ≡ suc n = omega arith in (is ∙ ap a f, tt)
told_snoc a n k (u ∷ ts) t e is told = (told.0, told_snoc a (suc n) k ts t (omega arith) is told.1)
