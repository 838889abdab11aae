-- The positions of a column's postings, an exchange there, and the bits of columns.
use Rattle.std.proofs.Common.{◌≡◌, ◌≢◌, ◌⊎◌, inl, inr, ℕ, zero, suc, ◌+◌, ◌-◌, ◌*◌, ◌^◌, ◌<◌, ◌≤◌, Bool, true, false, cond, eqb, not, ◌&&◌, refl, sym, subst, ap, ◌∙◌, arith, mul-le-mul, true≢false, eqb-true, eq-eqb, ne_eqb}
use Rattle.std.specs.Prelude.{max, bit_or}
use Rattle.std.specs.Int.{bit_at}
use Rattle.std.proofs.lemmas.Nat.Bits.{bit_at-zero, bit_at-lt, bit_at_or, bit_at-pow_same, bit_at-pow_other}
use mathlib.Core.Logic.{dite}
use native.Mathlib.Decide.{ℕ_discrete, dec_lt}
use Rattle.lst_layout.specs.declared.limits.Limits.{Limits}
use Rattle.lst_layout.specs.Limits.{IsValid}
use Rattle.lst_layout.specs.Areas.{posting_bits}
use Rattle.lst_layout.specs.Functions.{put_in}
use Rattle.lst_probe.proofs.Runs.{start_of-lt, run_position-lt}
use Rattle.lst_core_state.specs.Cells.{has_bit, has_number, tail_count}
use Rattle.lst_core_state.specs.declared.known.Hold.{Hold}
use Rattle.lst_core_state.specs.State.{Words, record_in}
use Rattle.lst_core_state.specs.Postings.{postings_size, value_first, value_position, IsAlike, IsPosted, is_alike, ends_at, is_unposted}
use Rattle.lst_core_state.proofs.Functions.{put_in_else}
use Rattle.lst_core_state.proofs.Positions.{bits_enough}
use Rattle.lst_core_state.proofs.CellsKept.{put_in_here}

-- ---- positions

module _ (l : Limits) (sized : IsValid l) where
  postings_enough : (2 * tail_count l ≤ postings_size l) × (posting_bits l ≤ 21)
  unfolding postings_size posting_bits
  postings_enough = let a = sized.ranges.1 in let b = sized.tails.1 in let h : tail_count l ≤ 64 * 16384 = mul-le-mul a b in bits_enough (2 * tail_count l) 21 (omega arith) (omega arith)

  pub tails_some : 0 < tail_count l
  tails_some = let a : 1 ≤ l.ranges = (let h = sized.ranges.0 in omega arith) in let b : 1 ≤ l.tails = (let h = sized.tails.0 in omega arith) in let some : 1 * 1 ≤ l.ranges * l.tails = mul-le-mul a b in omega arith

  pub tails_low : tail_count l < postings_size l
  tails_low = let h = postings_enough.0 in let some = tails_some in omega arith

  pub value_low : (value : ℕ) → value_first l value < postings_size l
  unfolding postings_size value_first
  value_low value = let h = postings_enough.1 in start_of-lt value (posting_bits l) (omega arith)

  pub value_position_low : (value i : ℕ) → value_position l value i < postings_size l
  value_position_low value i = let h = tails_low in run_position-lt (postings_size l) (value_first l value) i (omega arith)

-- ---- an exchange of an empty position

module _ (f : ℕ → ℕ → ℕ) (c q x : ℕ) where
  abbrev pub exchanged : ℕ → ℕ → ℕ
  exchanged = put_in f c q (cond (eqb (f c q) 0) x (f c q))

  pub exchanged_else : (d p : ℕ) → (d ≡ c → p ≢ q) → exchanged d p ≡ f d p
  exchanged_else d p other = put_in_else f c q (cond (eqb (f c q) 0) x (f c q)) d p other

  at : exchanged c q ≡ cond (eqb (f c q) 0) x (f c q)
  at = put_in_here f c q (cond (eqb (f c q) 0) x (f c q))

  pub exchanged_here : f c q ≡ 0 → exchanged c q ≡ x
  exchanged_here free = at ∙ ap (λ (b : Bool). cond b x (f c q)) (eq-eqb (f c q) 0 free)

  exchanged_lost : f c q ≢ 0 → exchanged c q ≡ f c q
  exchanged_lost taken = at ∙ ap (λ (b : Bool). cond b x (f c q)) (ne_eqb (f c q) 0 taken)

  -- what holds at the position and elsewhere
  each_exchanged : (P : ℕ → ℕ → Type 0) (d p : ℕ) → P c q → (((d ≡ c) → p ≢ q) → P d p) → P d p
  each_exchanged P d p here else = dite (ℕ_discrete d c)
      (λ e. dite (ℕ_discrete p q) (λ g. subst (λ (y : ℕ). P d y) (sym g) (subst (λ (y : ℕ). P y q) (sym e) here)) (λ ne. else (λ _. ne)))
      (λ ne. else (λ e. absurd (ne e)))

  -- a word that isn't 0 stays
  pub exchanged_stays : (d p : ℕ) → 0 < f d p → exchanged d p ≡ f d p
  exchanged_stays d p = each_exchanged (λ y z. 0 < f y z → exchanged y z ≡ f y z) d p (λ some. exchanged_lost (λ e. omega arith)) (λ other _. exchanged_else d p other)

  -- where the position was taken, all stay
  pub exchanged_same : f c q ≢ 0 → (d p : ℕ) → exchanged d p ≡ f d p
  exchanged_same taken d p = each_exchanged (λ y z. exchanged y z ≡ f y z) d p (exchanged_lost taken) (λ other. exchanged_else d p other)

  -- and where it was empty, the others stay
  pub exchanged_new : f c q ≡ 0 → (d p : ℕ) → (exchanged d p ≡ f d p) ⊎ ((d ≡ c) × (p ≡ q) × (exchanged d p ≡ x))
  exchanged_new free d p = each_exchanged (λ y z. (exchanged y z ≡ f y z) ⊎ ((y ≡ c) × (z ≡ q) × (exchanged y z ≡ x))) d p (inr (refl, refl, exchanged_here free)) (λ other. inl (exchanged_else d p other))

-- ---- bits of columns

or_one : (a : ℕ) → a < 2 → (b : ℕ) → b ≡ 1 → (c : ℕ) → c ≡ max a b → c ≡ 1
or_one a low b e c is = dite (ℕ_discrete a 0) (λ z. is ∙ (λ i. max (z i) (e i))) (λ ne. let one : a ≡ 1 = omega arith in is ∙ (λ i. max (one i) (e i)))

or_none : (a : ℕ) → a < 2 → (b : ℕ) → b ≡ 0 → (c : ℕ) → c ≡ max a b → c ≡ a
or_none a low b e c is = dite (ℕ_discrete a 0) (λ z. is ∙ (λ i. max (z i) (e i)) ∙ sym z) (λ ne. let one : a ≡ 1 = omega arith in is ∙ (λ i. max (one i) (e i)) ∙ sym one)

pub has_bit-none : (c : ℕ) → has_bit 0 c ≡ false
has_bit-none c = ne_eqb (bit_at 0 c) 1 (λ f. let e : 0 ≡ 1 = sym (bit_at-zero c) ∙ f in omega arith)

pub has_bit-same : (bits c : ℕ) → has_bit (bit_or bits (2 ^ c)) c ≡ true
has_bit-same bits c = eq-eqb (bit_at (bit_or bits (2 ^ c)) c) 1 (or_one (bit_at bits c) (bit_at-lt bits c) (bit_at (2 ^ c) c) (bit_at-pow_same c) (bit_at (bit_or bits (2 ^ c)) c) (bit_at_or bits (2 ^ c) c))

pub has_bit-other : (bits c d : ℕ) → d ≢ c → has_bit (bit_or bits (2 ^ c)) d ≡ has_bit bits d
has_bit-other bits c d other = ap (λ (x : ℕ). eqb x 1) (or_none (bit_at bits d) (bit_at-lt bits d) (bit_at (2 ^ c) d) (bit_at-pow_other c d other) (bit_at (bit_or bits (2 ^ c)) d) (bit_at_or bits (2 ^ c) d))

-- ---- where a run ends

and_says : (a b : Bool) → (a && b) ≡ true → (a ≡ true) × (b ≡ true)
and_says true b e = (refl, e)
and_says false b e = absurd (true≢false (sym e))

not_says : (a : Bool) → not a ≡ true → a ≡ false
not_says true e = absurd (true≢false (sym e))
not_says false e = refl

module _ (word : ℕ → ℕ) (passes : ℕ → Bool) (position : ℕ → ℕ) (goal : ℕ) where
  -- the position i is passed
  abbrev IsPassed : ℕ → Type 0
  IsPassed i = (0 < word (position i)) × (passes (word (position i)) ≡ false)

  -- a run that ends passes what is before its end
  ends_says : (n i : ℕ) → ends_at word passes position goal n i ≡ true → (k : ℕ) × (i ≤ k) × (k < i + n) × (word (position k) ≡ 0) × ((m : ℕ) → i ≤ m → m < k → IsPassed m)
  ends_says zero i e = absurd (true≢false (sym e))
  ends_says (suc n) i e = step (eqb (word (position i)) 0) refl (ends_says n (suc i)) e
    where
      step : (b : Bool) → eqb (word (position i)) 0 ≡ b → (ends_at word passes position goal n (suc i) ≡ true → (k : ℕ) × (suc i ≤ k) × (k < suc i + n) × (word (position k) ≡ 0) × ((m : ℕ) → suc i ≤ m → m < k → IsPassed m))
          → cond b (eqb (position i) goal) (not (passes (word (position i))) && ends_at word passes position goal n (suc i)) ≡ true → (k : ℕ) × (i ≤ k) × (k < i + suc n) × (word (position k) ≡ 0) × ((m : ℕ) → i ≤ m → m < k → IsPassed m)
      step true empty next f = (i, omega arith, omega arith, eqb-true (word (position i)) 0 empty, λ m a b. absurd (omega arith))
      step false some next f = let both = and_says (not (passes (word (position i)))) (ends_at word passes position goal n (suc i)) f in let rest = next both.1 in let ne : word (position i) ≢ 0 = (λ z. true≢false (sym (eq-eqb (word (position i)) 0 z) ∙ some)) in
          let here : IsPassed i = (omega arith, not_says (passes (word (position i))) both.0) in (
            rest.0,
            let a = rest.1 in omega arith,
            let a = rest.2 in omega arith,
            rest.3,
            λ m a b. dite (ℕ_discrete m i) (λ is. subst IsPassed (sym is) here) (λ apart. rest.4 m (omega arith) b),
          )

  -- a run that comes to an empty position at the goal ends there
  ends_reach : (d i n : ℕ) → d < n → ((m : ℕ) → i ≤ m → m < i + d → IsPassed m) → word (position (i + d)) ≡ 0 → position (i + d) ≡ goal → ends_at word passes position goal n i ≡ true
  ends_reach d i zero low passed empty is = absurd (omega arith)
  ends_reach zero i (suc n) low passed empty is = let at : i + 0 ≡ i = omega arith in
      ap (λ (b : Bool). cond b (eqb (position i) goal) (not (passes (word (position i))) && ends_at word passes position goal n (suc i))) (eq-eqb (word (position i)) 0 (ap (λ (j : ℕ). word (position j)) (sym at) ∙ empty))
      ∙ eq-eqb (position i) goal (ap position (sym at) ∙ is)
  ends_reach (suc d) i (suc n) low passed empty is = let at : suc i + d ≡ i + suc d = omega arith in let here = passed i (omega arith) (omega arith) in let some = here.0 in
      ap (λ (b : Bool). cond b (eqb (position i) goal) (not (passes (word (position i))) && ends_at word passes position goal n (suc i))) (ne_eqb (word (position i)) 0 (λ z. omega arith))
      ∙ ((λ j. not (here.1 j) && ends_at word passes position goal n (suc i))
      ∙ ends_reach d (suc i) n (omega arith) (λ m a b. passed m (omega arith) (omega arith)) (ap (λ (j : ℕ). word (position j)) at ∙ empty) (ap position at ∙ is))

alike_says : (l : Limits) (cells : ℕ → ℕ → ℕ) (column r value t : ℕ) → IsAlike l cells column r value t → is_alike l cells column r value t ≡ true
alike_says l cells column r value t is = λ i. eq-eqb (record_in l cells t) r is.0 i && eq-eqb (cells t (3 + column)) value is.1 i

alike_told : (l : Limits) (cells : ℕ → ℕ → ℕ) (column r value t : ℕ) → ¬ IsAlike l cells column r value t → is_alike l cells column r value t ≡ false
alike_told l cells column r value t other = choose (is_alike l cells column r value t) refl
  where
    choose : (b : Bool) → is_alike l cells column r value t ≡ b → is_alike l cells column r value t ≡ false
    choose false e = e
    choose true e = let both = and_says (eqb (record_in l cells t) r) (eqb (cells t (3 + column)) value) e in absurd (other (eqb-true (record_in l cells t) r both.0, eqb-true (cells t (3 + column)) value both.1))

module _ (l : Limits) (w : Words) (h : Hold) (column : ℕ) where
  abbrev x : ℕ
  x = w.cells h.tail (3 + column)

  abbrev tails : ℕ → ℕ
  tails = w.postings column

  abbrev alike : ℕ → Bool
  alike = is_alike l w.cells column (h.latch - 1) x

  -- what a load finds that marks the column
  pub unposted_says : (q : ℕ) → is_unposted l w h column q ≡ true → (h.is_whole ≡ true) × (has_number (w.cells h.tail 1) column ≡ true) × ¬ IsPosted l w.cells tails column (h.latch - 1) x
  unposted_says q e = let a = and_says h.is_whole (has_number (w.cells h.tail 1) column && ends_at tails alike (value_position l x) q (postings_size l) 0) e in
      let b = and_says (has_number (w.cells h.tail 1) column) (ends_at tails alike (value_position l x) q (postings_size l) 0) a.1 in let end = ends_says tails alike (value_position l x) q (postings_size l) 0 b.1 in
      (a.0, b.0, λ p. none end.0 end.3 (λ m low. end.4 m (omega arith) low) p)
    where
      none : (k : ℕ) → tails (value_position l x k) ≡ 0 → ((m : ℕ) → m < k → (0 < tails (value_position l x m)) × (alike (tails (value_position l x m)) ≡ false)) → ¬ IsPosted l w.cells tails column (h.latch - 1) x
      none k empty passed p = let o : ℕ = p.reached.offset in let at : p.position ≡ value_position l x o = p.reached.is in
          let met : alike (tails (value_position l x o)) ≡ true = ap (λ (y : ℕ). alike (tails y)) (sym at) ∙ alike_says l w.cells column (h.latch - 1) x (tails p.position) p.alike in
          let some : 0 < tails (value_position l x o) = subst (λ (y : ℕ). 0 < tails y) at p.some in
          dite (dec_lt o k) (λ low. true≢false (sym met ∙ (passed o low).1))
          (λ late. dite (ℕ_discrete o k)
          (λ same. let f : tails (value_position l x o) ≡ tails (value_position l x k) = ap (λ (j : ℕ). tails (value_position l x j)) same in omega arith)
          (λ ne. let f = p.reached.filled k (grind (arith, late, ne)) in omega arith))

  pub ends_unposted : (n : ℕ) → h.is_whole ≡ true → has_number (w.cells h.tail 1) column ≡ true → n < postings_size l → ((i : ℕ) → i < n → (0 < tails (value_position l x i)) × ¬ IsAlike l w.cells column (h.latch - 1) x (tails (value_position l x i))) → tails (value_position l x n) ≡ 0
      → is_unposted l w h column (value_position l x n) ≡ true
  ends_unposted n whole number low passed empty = let at : 0 + n ≡ n = omega arith in
      let end = ends_reach tails alike (value_position l x) (value_position l x n) n 0 (postings_size l) low (λ m _ b. let p = passed m (omega arith) in (p.0, alike_told l w.cells column (h.latch - 1) x (tails (value_position l x m)) p.1)) (ap (λ (j : ℕ). tails (value_position l x j)) at ∙ empty) (ap (value_position l x) at) in
      λ i. whole i && (number i && end i)
