-- The settled tails of a record stand on its chain.
use Rattle.std.proofs.Common.{◌≡◌, ℕ, zero, suc, ◌+◌, ◌-◌, ◌*◌, ◌/◌, ◌%◌, ◌<◌, ◌≤◌, List, [], ◌∷◌, ◌++◌, Bool, true, false, cond, eqb, refl, sym, subst, ap, ◌∙◌, arith, inl, inr, ⊎_elim, length, take, nat_lt, nat_le, ◌&&◌, ltb-true, lt-ltb, leb-true, le-leb, eqb-true, eq-eqb}
use Rattle.std.specs.Prelude.{filter}
use mathlib.Core.Logic.{dite}
use native.Mathlib.Decide.{ℕ_discrete}
use Rattle.lst_layout.specs.declared.limits.Limits.{Limits}
use Rattle.lst_core_state.specs.Lists.{Has, Links, acts, down}
use Rattle.lst_core_state.specs.Cells.{record_count, range_of, tail_range, tail_at, record_of, slot_of}
use Rattle.lst_core_state.specs.State.{Words, Core, state_at, line, back_in, record_in}
use Rattle.lst_core_state.specs.Sound.{Sound, StoredOf, InHand}
use Rattle.lst_core_state.proofs.Lists.{acts_all, acts_same}
use Rattle.lst_core_state.proofs.Sights.{same_truth}
use Rattle.lst_core_state.proofs.Decoded.{both_say, not_true}
use Rattle.lst_core_state.proofs.CellsKept.{tail_at-some, tail_at-none, tail_range-is}
use Rattle.lst_core_state.proofs.VersionsKept.{hand_open}
use Rattle.lst_pages.specs.declared.tails.PageTail.{PageTail}
use Rattle.lst_pages.specs.Chains.{Told}
use Rattle.lst_pages.specs.Settled.{tail_in, settled_tails}
use Rattle.lst_pages.specs.StateLaws.{SettledAreOnChains}
use Rattle.lst_pages.proofs.Growing.{settled_says}
use Rattle.lst_pages.proofs.Numbering.{settled_are_numbered}

-- ---- chains by number

-- the numbers of tails in the range that has this many tails before it
abbrev numbers : ℕ → List ℕ → List ℕ
numbers base [] = []
numbers base (t ∷ ts) = (t - base) ∷ numbers base ts

has_number : (base t m : ℕ) (ts : List ℕ) → t ≡ base + m → Has t ts → Has m (numbers base ts)
has_number base t m [] is none = none
has_number base t m (x ∷ xs) is (inl e) = inl (omega arith)
has_number base t m (x ∷ xs) is (inr i) = inr (has_number base t m xs is i)

-- the back words lead along the numbers
numbers_link : (l : Limits) (w : Words) (range n : ℕ) (ts : List ℕ) → ((t : ℕ) → Has t ts → (range * l.tails < t) × (t ≤ range * l.tails + l.tails)) → Links (back_in l w.cells) (tail_at l.tails range n) ts
    → Links (λ m. w.cells (range * l.tails + m) 2) n (numbers (range * l.tails) ts)
numbers_link l w range n [] inside links = dite (ℕ_discrete n 0) (λ e. e) (λ ne. absurd (let none : tail_at l.tails range n ≡ 0 = links in let some = tail_at-some l.tails range n (omega arith) in omega arith))
numbers_link l w range n (t ∷ ts) inside links = dite (ℕ_discrete n 0)
    (λ e. absurd (let none : tail_at l.tails range n ≡ 0 = ap (tail_at l.tails range) e ∙ tail_at-none l.tails range in let at = links.0 in let some = links.1 in omega arith))
    (λ ne. let here : tail_at l.tails range n ≡ range * l.tails + n = tail_at-some l.tails range n (omega arith) in let at : tail_at l.tails range n ≡ t = links.0 in let q = inside t (inl refl) in let low = q.0 in let high = q.1 in
    let back : back_in l w.cells t ≡ tail_at l.tails range (w.cells t 2) = ap (λ (r : ℕ). tail_at l.tails r (w.cells t 2)) (tail_range-is l.tails range t low high) in
    let word : w.cells (range * l.tails + (t - range * l.tails)) 2 ≡ w.cells t 2 = ap (λ (u : ℕ). w.cells u 2) (let e : range * l.tails + (t - range * l.tails) ≡ t = omega arith in e) in
    let falls : w.cells t 2 < n = lower (w.cells t 2) t (omega arith) here at back links.2 in (
      omega arith,
      omega arith,
      omega arith,
      subst (λ (h : ℕ). Links (λ m. w.cells (range * l.tails + m) 2) h (numbers (range * l.tails) ts)) (sym word)
          (numbers_link l w range (w.cells t 2) ts (λ u i. inside u (inr i)) (subst (λ (h : ℕ). Links (back_in l w.cells) h ts) back links.3)),
    ))
  where
    lower : (b t : ℕ) → 0 < n → tail_at l.tails range n ≡ range * l.tails + n → tail_at l.tails range n ≡ t → back_in l w.cells t ≡ tail_at l.tails range b → back_in l w.cells t < t → b < n
    lower b t some here at back falls = dite (ℕ_discrete b 0) (λ e. omega arith) (λ ne. let more = tail_at-some l.tails range b (omega arith) in omega arith)

-- ---- lists

-- one more of the first
take_last : (a : ℕ → PageTail) (n p k : ℕ) (ts : List PageTail) → k ≡ suc (n + p) → Told a n ts → p < length ts → take (suc p) ts ≡ take p ts ++ a k ∷ []
take_last a n p k [] is told low = absurd (omega arith)
take_last a n zero k (t ∷ ts) is told low = let e : suc n ≡ k = omega arith in λ i. (told.0 ∙ ap a e) i ∷ []
take_last a n (suc p) k (t ∷ ts) is told low = ap (λ (us : List PageTail). t ∷ us) (take_last a (suc n) p k ts (omega arith) told.1 (omega arith))

filter_last : (q : PageTail → Bool) (ts : List PageTail) (t : PageTail) → filter q (ts ++ t ∷ []) ≡ cond (q t) (filter q ts ++ t ∷ []) (filter q ts)
filter_last q [] t = refl
filter_last q (u ∷ ts) t = step (q u) (q t) (filter_last q ts t)
  where
    step : (b d : Bool) → filter q (ts ++ t ∷ []) ≡ cond d (filter q ts ++ t ∷ []) (filter q ts) → cond b (u ∷ filter q (ts ++ t ∷ [])) (filter q (ts ++ t ∷ [])) ≡ cond d (cond b (u ∷ filter q ts) (filter q ts) ++ t ∷ []) (cond b (u ∷ filter q ts) (filter q ts))
    step true true e = ap (λ (us : List PageTail). u ∷ us) e
    step true false e = ap (λ (us : List PageTail). u ∷ us) e
    step false true e = e
    step false false e = e

-- those that q takes of the first p, by their numbers
filter_told : (q : PageTail → Bool) (a : ℕ → PageTail) (p : ℕ) (ts : List PageTail) → Told a 0 ts → p ≤ length ts → filter q (take p ts) ≡ acts (λ m. q (a m)) a (down p)
filter_told q a zero ts told low = refl
filter_told q a (suc p) ts told low = let rest = filter_told q a p ts told (omega arith) in ap (filter q) (take_last a 0 p (suc p) ts (omega arith) told (omega arith))
    ∙ (filter_last q (take p ts) (a (suc p)) ∙ λ i. cond (q (a (suc p))) (rest i ++ a (suc p) ∷ []) (rest i))

down_has : (n t : ℕ) → Has t (down n) → (0 < t) × (t ≤ n)
down_has zero t none = absurd none
down_has (suc n) t (inl e) = (omega arith, omega arith)
down_has (suc n) t (inr i) = let q = down_has n t i in let a = q.0 in let b = q.1 in (omega arith, omega arith)

-- no number above p is taken
down_more : (r : ℕ → Bool) (a : ℕ → PageTail) (p n : ℕ) → p ≤ n → ((m : ℕ) → p < m → r m ≡ false) → acts r a (down n) ≡ acts r a (down p)
down_more r a p zero low none = let e : zero ≡ p = omega arith in ap (λ (m : ℕ). acts r a (down m)) e
down_more r a p (suc n) low none = dite (ℕ_discrete p (suc n))
    (λ e. ap (λ (m : ℕ). acts r a (down m)) (sym e))
    (λ ne. ap (λ (b : Bool). cond b (acts r a (down n) ++ a (suc n) ∷ []) (acts r a (down n))) (none (suc n) (omega arith)) ∙ down_more r a p n (omega arith) none)

acts_numbers : (r : ℕ → Bool) (a : ℕ → PageTail) (base : ℕ) (ts : List ℕ) → acts r a (numbers base ts) ≡ acts (λ t. r (t - base)) (λ t. a (t - base)) ts
acts_numbers r a base [] = refl
acts_numbers r a base (t ∷ ts) = let rest = acts_numbers r a base ts in λ i. cond (r (t - base)) (rest i ++ a (t - base) ∷ []) (rest i)

record_says : (tails t e : ℕ) → record_of tails t e ≡ 256 * tail_range tails t + slot_of e
unfolding record_of
record_says tails t e = refl

-- ---- one record

module _ (c : Core) (sound : Sound c) (rec p : ℕ) (below : rec < record_count c.limits) (enough : p ≤ length (settled_tails c.limits c.words (range_of rec))) where
  abbrev l : Limits
  l = c.limits

  abbrev w : Words
  w = c.words

  abbrev base : ℕ
  base = range_of rec * c.limits.tails

  abbrev slot : ℕ
  slot = rec % 256

  abbrev chain : List ℕ
  chain = line c.limits c.words rec

  abbrev tail_of : ℕ → PageTail
  tail_of m = tail_in l w (base + m)

  abbrev back : ℕ → ℕ
  back m = w.cells (base + m) 2

  -- a tail of the chain is one of the range, and has the record's slot
  inside : (t : ℕ) → Has t chain → (base < t) × (t ≤ base + l.tails)
  inside t i = let L = sound.versions.lines rec below in let k : StoredOf l w c.known t = sound.versions.stored t (L.stored t i) in
      subst (λ (r : ℕ). (range_of r * l.tails < t) × (t ≤ range_of r * l.tails + l.tails)) (L.here t i) (k.drawn.0, k.drawn.1)

  slot_here : (t : ℕ) → Has t chain → (tail_in l w t).slot ≡ slot
  slot_here t i = let L = sound.versions.lines rec below in let is : 256 * tail_range l.tails t + slot_of (w.cells t 1) ≡ rec = sym (record_says l.tails t (w.cells t 1)) ∙ L.here t i in omega arith

  -- a tail in hand isn't settled, so a settled one of the record's slot is on its chain
  open_hand : (t : ℕ) → 0 < w.cells t 0 → InHand l c.known t → state_at w t ≡ 0
  open_hand t stored hand = let j : ℕ = hand.0 in let at = hand.2 in let some = (sound.versions.hands j hand.1).some hand.3 in
      subst (λ (u : ℕ). state_at w u ≡ 0) at (hand_open l w c.known sound.sized sound.times sound.each sound.versions j hand.1 some (subst (λ (u : ℕ). 0 < w.cells u 0) (sym at) stored))

  placed_on : (m : ℕ) → 0 < m → m ≤ length (settled_tails l w (range_of rec)) → (tail_of m).slot ≡ slot → Has (base + m) chain
  placed_on m some low same = let t : ℕ = base + m in let n = settled_are_numbered l w (range_of rec) in let q = settled_says w t (n.each m some low) in let k : StoredOf l w c.known t = sound.versions.stored t q.0 in
      let most = n.few in let range : tail_range l.tails t ≡ range_of rec = tail_range-is l.tails (range_of rec) t (omega arith) (omega arith) in
      let here : record_in l w.cells t ≡ rec = record_says l.tails t (w.cells t 1) ∙ (omega arith) in
      ⊎_elim
      (λ (on : Has t (line l w (record_in l w.cells t))). subst (λ (r : ℕ). Has t (line l w r)) here on)
      (λ (hand : InHand l c.known t). let idle = open_hand t q.0 hand in let some = q.1 in absurd (omega arith))
      k.place

  -- a number of the record's, up to p
  abbrev takes : ℕ → Bool
  takes m = nat_lt 0 m && (nat_le m p && eqb (tail_of m).slot slot)

  takes_is : (m : ℕ) → takes m ≡ true → (0 < m) × (m ≤ p) × ((tail_of m).slot ≡ slot)
  takes_is m e = let a = both_say (nat_lt 0 m) (nat_le m p && eqb (tail_of m).slot slot) e in let b = both_say (nat_le m p) (eqb (tail_of m).slot slot) a.1 in
      (ltb-true 0 m a.0, leb-true m p b.0, eqb-true (tail_of m).slot slot b.1)

  takes_so : (m : ℕ) → 0 < m → m ≤ p → takes m ≡ eqb (tail_of m).slot slot
  takes_so m some few = λ i. lt-ltb 0 m some i && (le-leb m p few i && eqb (tail_of m).slot slot)

  links : Links back (w.heads rec / 2) (numbers base chain)
  links = numbers_link l w (range_of rec) (w.heads rec / 2) chain inside (sound.versions.lines rec below).links

  on_chain : (m : ℕ) → takes m ≡ true → Has m (numbers base chain)
  on_chain m e = let q = takes_is m e in let some = q.0 in let few = q.1 in has_number base (base + m) m chain refl (placed_on m some (omega arith) q.2)

  chain_takes : (t : ℕ) → Has t chain → takes (t - base) ≡ nat_le t (base + p)
  chain_takes t i = let above = (inside t i).0 in let at : t ≡ base + (t - base) = omega arith in same_truth (takes (t - base)) (nat_le t (base + p))
      (λ e. let q = takes_is (t - base) e in let few = q.1 in le-leb t (base + p) (omega arith))
      (λ e. let few = leb-true t (base + p) e in takes_so (t - base) (omega arith) (omega arith) ∙ eq-eqb (tail_of (t - base)).slot slot (ap (λ (u : ℕ). (tail_in l w u).slot) (sym at) ∙ slot_here t i))

  on_chains : filter (λ t. eqb t.slot (rec % 256)) (take p (settled_tails c.limits c.words (range_of rec))) ≡ acts (λ t. nat_le t (range_of rec * c.limits.tails + p)) (tail_in c.limits c.words) (line c.limits c.words rec)
  on_chains = filter_told (λ t. eqb t.slot slot) tail_of p (settled_tails l w (range_of rec)) (settled_are_numbered l w (range_of rec)).told enough
      ∙ (acts_same takes (λ m. eqb (tail_of m).slot slot) tail_of tail_of (down p) (λ m i. let q = down_has p m i in sym (takes_so m q.0 q.1)) (λ m i e. refl)
      ∙ (sym (down_more takes tail_of p (w.heads rec / 2 + p) (omega arith) (λ m high. not_true (takes m) (λ e. let q = takes_is m e in let few = q.1 in omega arith)))
      ∙ (acts_all takes tail_of back (w.heads rec / 2 + p) (w.heads rec / 2) (numbers base chain) links (omega arith) (λ m few e. on_chain m e)
      ∙ (acts_numbers takes tail_of base chain
      ∙ sym (acts_same (λ t. takes (t - base)) (λ t. nat_le t (base + p)) (λ t. tail_of (t - base)) (tail_in l w) chain (λ t i. sym (chain_takes t i))
      (λ t i e. let above = (inside t i).0 in ap (tail_in l w) (let at : t ≡ base + (t - base) = omega arith in at)))))))

pub settled_are_on_chains : SettledAreOnChains
settled_are_on_chains c sound rec p below enough = on_chains c sound rec p below enough
