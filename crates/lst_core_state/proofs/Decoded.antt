-- The decoded writes and the chains.
use Rattle.std.proofs.Common.{◌≡◌, ◌≢◌, ℕ, zero, suc, ◌-◌, ◌/◌, ◌%◌, ◌<◌, ◌≤◌, List, [], ◌∷◌, Bool, true, false, refl, sym, subst, ap, ◌∙◌, arith, true≢false, eqb, eq-eqb, ne_eqb, eqb-true, ◌⊎◌, ⊎_elim, inl, inr, nat_lt, lt-ltb, le-ltb, ltb-true, ◌&&◌}
use mathlib.Core.Logic.{dite}
use native.Mathlib.Decide.{ℕ_discrete}
use Rattle.lst_layout.specs.declared.limits.Limits.{Limits}
use Rattle.lst_layout.specs.Limits.{IsValid}
use Rattle.lst_model.specs.declared.acts.Act.{Act}
use Rattle.lst_model.specs.Histories.{acts_on}
use Rattle.lst_core_state.specs.Lists.{Has, Links, acts, down}
use Rattle.lst_core_state.specs.Writes.{commit, line_by}
use Rattle.lst_core_state.proofs.Lists.{acts_all, acts_same, acts_none}
use Rattle.lst_core_state.proofs.Writes.{same_lines, writes_line, writes_rising, writes_same}
use Rattle.lst_core_state.specs.declared.known.Known.{Known}
use Rattle.lst_core_state.specs.Cells.{record_count, tail_count}
use Rattle.lst_core_state.specs.Index.{is_placed}
use Rattle.lst_core_state.specs.State.{Words, entry, writer, writer_at, name_of, line, is_by, writes_of, history, history_of, record_in, act_in, back_in, head_of}
use Rattle.lst_core_state.specs.Sound.{InHand, Versions, TimesOf, Each, OwnsOf}
use Rattle.lst_core_state.proofs.Histories.{history_same}
use Rattle.lst_core_state.proofs.Steps.{Same, record_same, act_same, writer_odd, hand_idle}
use Rattle.lst_core_state.proofs.VersionsKept.{hand_open}

pub not_true : (b : Bool) → ¬ (b ≡ true) → b ≡ false
not_true true h = absurd (h refl)
not_true false h = refl

no_and : (b : Bool) → (b && false) ≡ false
no_and true = refl
no_and false = refl

and_true : (b : Bool) → (b && true) ≡ b
and_true true = refl
and_true false = refl

pub both_say : (a b : Bool) → (a && b) ≡ true → (a ≡ true) × (b ≡ true)
both_say true true e = (refl, refl)
both_say true false e = absurd (true≢false (sym e))
both_say false b e = absurd (true≢false (sym e))

module _ (log : ℕ → ℕ) (cells : ℕ → ℕ → ℕ) (x t : ℕ) where
  pub by_yes : 0 < cells t 0 → is_by log cells x t ≡ eqb (writer log (cells t 0)) x
  by_yes some = ap (λ (b : Bool). b && eqb (writer log (cells t 0)) x) (lt-ltb 0 (cells t 0) some)

  pub by_blank : cells t 0 ≡ 0 → is_by log cells x t ≡ false
  by_blank none = ap (λ (b : Bool). b && eqb (writer log (cells t 0)) x) (le-ltb 0 (cells t 0) (omega arith))

  pub by_other : writer log (cells t 0) ≢ x → is_by log cells x t ≡ false
  by_other ne = ap (λ (b : Bool). nat_lt 0 (cells t 0) && b) (ne_eqb (writer log (cells t 0)) x ne) ∙ no_and (nat_lt 0 (cells t 0))

  pub by_says : is_by log cells x t ≡ true → (0 < cells t 0) × (writer log (cells t 0) ≡ x)
  by_says e = let q = both_say (nat_lt 0 (cells t 0)) (eqb (writer log (cells t 0)) x) e in (ltb-true 0 (cells t 0) q.0, eqb-true (writer log (cells t 0)) x q.1)

-- a step that leaves the stored tails, and stores none of x's, leaves x's writes
module _ (l : Limits) (w w' : Words) (x : ℕ) (same : (t : ℕ) → 0 < w.cells t 0 → Same l w w' t) (new : (t : ℕ) → w.cells t 0 ≡ 0 → (w'.cells t 0 ≡ 0) ⊎ (writer_at w' t ≢ x)) where
  by_same : (t : ℕ) → is_by w'.log w'.cells x t ≡ is_by w.log w.cells x t
  by_same t = dite (ℕ_discrete (w.cells t 0) 0)
      (λ z. ⊎_elim (λ (z' : w'.cells t 0 ≡ 0). by_blank w'.log w'.cells x t z') (λ (ne : writer_at w' t ≢ x). by_other w'.log w'.cells x t ne) (new t z) ∙ sym (by_blank w.log w.cells x t z))
      (λ nz. let some : 0 < w.cells t 0 = omega arith in let q = same t some in by_yes w'.log w'.cells x t q.stays ∙ (ap (λ (y : ℕ). eqb y x) q.by ∙ sym (by_yes w.log w.cells x t some)))

  pub writes_of-same : writes_of l w' x ≡ writes_of l w x
  writes_of-same = writes_same (is_by w.log w.cells x) (is_by w'.log w'.cells x) (λ t. w.keys (record_in l w.cells t)) (λ t. w'.keys (record_in l w'.cells t)) (act_in l w.cells) (act_in l w'.cells) (tail_count l) by_same
      (λ t e. let q = same t (by_says w.log w.cells x t e).0 in (ap w'.keys (record_same l w.cells w'.cells t q.words) ∙ q.key, act_same l w.cells w'.cells t q.words))

module _ (l : Limits) (w : Words) (known : ℕ → Known) (sized : IsValid l) (times : TimesOf l w) (each : Each l w known) (V : Versions l w known) where
  -- a tail in hand does not name a commit
  pub logged_apart : (u t : ℕ) → 0 < u → u ≤ w.clock → InHand l known t → writer_at w t ≢ w.log u
  logged_apart u t low high i e = let j : ℕ = i.0 in let k = V.hands j i.1 in let some = k.some i.3 in let start = k.start i.3 in let z = hand_open l w known sized times each V j i.1 some (omega arith) in
      let n = (times.named u low high).state in let same : entry w.states (writer_at w (known j).hold.tail) ≡ entry w.states (w.log u) = ap (entry w.states) (ap (writer_at w) i.2 ∙ e) in omega arith

  pub head_few : (r : ℕ) → r < record_count l → head_of l r (w.heads r) ≤ tail_count l
  head_few r low = first (line l w r) (V.lines r low).links (λ t i. (V.stored t ((V.lines r low).stored t i)).few)
    where
      first : (ys : List ℕ) → Links (back_in l w.cells) (head_of l r (w.heads r)) ys → ((t : ℕ) → Has t ys → t ≤ tail_count l) → head_of l r (w.heads r) ≤ tail_count l
      first [] links drawn = let e : head_of l r (w.heads r) ≡ 0 = links in omega arith
      first (y ∷ ys) links drawn = let e : head_of l r (w.heads r) ≡ y = links.0 in let h = drawn y (inl refl) in omega arith

  -- the acts of x on a key, by tail
  abbrev pub line_of : ℕ → ℕ → List Act
  line_of x k = line_by (is_by w.log w.cells x) (λ t. w.keys (record_in l w.cells t)) (act_in l w.cells) k (tail_count l)

  pub writes_on : (x k : ℕ) → acts_on k (writes_of l w x) ≡ line_of x k
  writes_on x k = writes_line (is_by w.log w.cells x) (λ t. w.keys (record_in l w.cells t)) (act_in l w.cells) (tail_count l) k

  -- the cells of one transaction with one key are on its record's chain, in order
  pub by_line : (x r : ℕ) → r < record_count l → is_placed l w.index r ≡ true → ((t : ℕ) → InHand l known t → writer_at w t ≢ x) → line_of x (w.keys r) ≡ acts (λ t. eqb (writer_at w t) x) (act_in l w.cells) (line l w r)
  by_line x r low indexed apart = let k : ℕ = w.keys r in let key : ℕ → ℕ = λ t. w.keys (record_in l w.cells t) in let p : ℕ → Bool = λ t. is_by w.log w.cells x t && eqb (key t) k in let L = V.lines r low in
      acts_all p (act_in l w.cells) (back_in l w.cells) (tail_count l) (head_of l r (w.heads r)) (line l w r) L.links (head_few r low)
      (λ t _ e. let both = both_say (is_by w.log w.cells x t) (eqb (key t) k) e in let q = by_says w.log w.cells x t both.0 in let s = V.stored t q.0 in
      let at : record_in l w.cells t ≡ r = V.keys_apart (record_in l w.cells t) r s.low low s.index indexed (eqb-true (key t) k both.1) in
      ⊎_elim (λ (i : Has t (line l w (record_in l w.cells t))). subst (λ (z : ℕ). Has t (line l w z)) at i) (λ (i : InHand l known t). absurd (apart t i q.1)) s.place)
      ∙ sym (acts_same p (λ t. eqb (writer_at w t) x) (act_in l w.cells) (act_in l w.cells) (line l w r)
      (λ t i. sym ((λ j. by_yes w.log w.cells x t (L.stored t i) j && eq-eqb (key t) k (ap w.keys (L.here t i)) j) ∙ and_true (eqb (writer_at w t) x))) (λ _ _ _. refl))

  -- a key of no placed record is written by nobody
  pub by_none : (x k : ℕ) → ((r : ℕ) → r < record_count l → is_placed l w.index r ≡ true → w.keys r ≢ k) → line_of x k ≡ []
  by_none x k none = let key : ℕ → ℕ = λ t. w.keys (record_in l w.cells t) in let p : ℕ → Bool = λ t. is_by w.log w.cells x t && eqb (key t) k in acts_none p (act_in l w.cells) (down (tail_count l)) (λ t _. not_true (p t)
      (λ e. let both = both_say (is_by w.log w.cells x t) (eqb (key t) k) e in let q = by_says w.log w.cells x t both.0 in let s = V.stored t q.0 in none (record_in l w.cells t) s.low s.index (eqb-true (key t) k both.1)))

  -- a key is one of a placed record, or of none
  pub find_key : (k n : ℕ) → ((r : ℕ) × (r < n) × (is_placed l w.index r ≡ true) × (w.keys r ≡ k)) ⊎ ((r : ℕ) → r < n → is_placed l w.index r ≡ true → w.keys r ≢ k)
  find_key k zero = inr (λ r h. absurd (omega arith))
  find_key k (suc n) = ⊎_elim (λ (q : (r : ℕ) × (r < n) × (is_placed l w.index r ≡ true) × (w.keys r ≡ k)). inl (q.0, let h = q.1 in omega arith, q.2, q.3))
      (λ (none : (r : ℕ) → r < n → is_placed l w.index r ≡ true → w.keys r ≢ k). last (is_placed l w.index n) refl none) (find_key k n)
    where
      last : (b : Bool) → is_placed l w.index n ≡ b → ((r : ℕ) → r < n → is_placed l w.index r ≡ true → w.keys r ≢ k) → ((r : ℕ) × (r < suc n) × (is_placed l w.index r ≡ true) × (w.keys r ≡ k)) ⊎ ((r : ℕ) → r < suc n → is_placed l w.index r ≡ true → w.keys r ≢ k)
      last false e none = inr (λ r h is. dite (ℕ_discrete r n) (λ f. absurd (true≢false (sym is ∙ ap (is_placed l w.index) f ∙ e))) (λ ne. none r (omega arith) is))
      last true e none = dite (ℕ_discrete (w.keys n) k) (λ f. inl (n, omega arith, e, f)) (λ ne. inr (λ r h is. dite (ℕ_discrete r n) (λ f. λ g. ne (ap w.keys (sym f) ∙ g)) (λ d. none r (omega arith) is)))

  -- a step that leaves the clock leaves the history
  pub decoded_same : (w' : Words) → w'.clock ≡ w.clock → ((t : ℕ) → 0 < t → t ≤ w.clock → w'.log t ≡ w.log t) → ((t : ℕ) → 0 < t → t ≤ w.clock → entry w'.begins (w.log t) ≡ entry w.begins (w.log t))
      → ((t : ℕ) → 0 < w.cells t 0 → Same l w w' t) → ((u t : ℕ) → 0 < u → u ≤ w.clock → w.cells t 0 ≡ 0 → (w'.cells t 0 ≡ 0) ⊎ (writer_at w' t ≢ w.log u)) → history_of l w' ≡ history_of l w
  decoded_same w' clock logs begs same new = (λ i. history (clock i) w'.log w'.begins (writes_of l w')) ∙ history_same w.clock w.log w'.log w.begins w'.begins (writes_of l w) (writes_of l w') (λ t low high.
      let e : w'.log t ≡ w.log t = logs t low high in let b : entry w'.begins (w'.log t) ≡ entry w.begins (w.log t) = ap (entry w'.begins) e ∙ begs t low high in
      let c : writes_of l w' (w'.log t) ≡ writes_of l w (w.log t) = ap (writes_of l w') e ∙ writes_of-same l w w' (w.log t) same (λ y z. new t y low high z) in
      (λ i. commit (e i % 16) (e i / 16) (b i - 1) (c i)))

  -- the own writes are those that the clock will publish
  pub own_writes : (s : ℕ) → s < l.sessions → (known s).is_open ≡ true → (known s).hold.latch ≡ 0 → OwnsOf l w s (known s) → (known s).own ≡ writes_of l w (name_of s (known s).number)
  own_writes s low is_on none o = let v : Known = known s in let x : ℕ = name_of s v.number in let few = sized.sessions.1 in
      let apart : (t : ℕ) → InHand l known t → writer_at w t ≢ x = λ t i e. let j : ℕ = i.0 in let k = V.hands j i.1 in let start = k.start i.3 in
      let by : writer_at w t ≡ name_of j (known j).number = ap (writer_at w) (sym i.2) ∙ (writer_odd w.log (w.cells (known j).hold.tail 0) (omega arith) ∙ (omega arith)) in
      let lj = i.1 in let is : j ≡ s = omega arith in let idle = hand_idle l w w s v (V.hands s low) none in true≢false (sym i.3 ∙ ap (λ (y : ℕ). (known y).hold.is_whole) is ∙ idle.1) in
      same_lines 0 0 v.own (writes_of l w x) o.rising (writes_rising (is_by w.log w.cells x) (λ t. w.keys (record_in l w.cells t)) (act_in l w.cells) (tail_count l))
      (λ k. ⊎_elim
      (λ (q : (r : ℕ) × (r < record_count l) × (is_placed l w.index r ≡ true) × (w.keys r ≡ k)). subst (λ (z : ℕ). acts_on z v.own ≡ acts_on z (writes_of l w x)) q.3
      (o.each is_on q.0 q.1 q.2 ∙ (sym (by_line x q.0 q.1 q.2 apart) ∙ sym (writes_on x (w.keys q.0)))))
      (λ (none : (r : ℕ) → r < record_count l → is_placed l w.index r ≡ true → w.keys r ≢ k). o.else k none ∙ sym (writes_on x k ∙ by_none x k none))
      (find_key k (record_count l)))
