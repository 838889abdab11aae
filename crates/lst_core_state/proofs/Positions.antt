-- The positions of the index.
use Rattle.std.proofs.Common.{◌≡◌, ℕ, zero, suc, ◌+◌, ◌*◌, ◌^◌, ◌<◌, ◌≤◌, Bool, true, false, cond, eqb, ◌||◌, nat_le, refl, sym, ap, ◌∙◌, arith, ◌⊎◌, ⊎_elim, inl, inr, true≢false, le-leb, leb-true, eq-eqb, eqb-true}
use mathlib.Core.Logic.{dite}
use native.Mathlib.Decide.{ℕ_discrete}
use Rattle.lst_layout.specs.declared.limits.Limits.{Limits}
use Rattle.lst_layout.specs.Limits.{IsValid}
use Rattle.lst_layout.specs.Functions.{put}
use Rattle.lst_layout.specs.Areas.{least, bits_for, index_bits}
use Rattle.lst_probe.proofs.Runs.{start_of-lt, run_position-lt, run_positions_apart}
use Rattle.lst_core_state.specs.Cells.{record_count}
use Rattle.lst_core_state.specs.Index.{size, first_of, position_of, held_in, is_placed}
use Rattle.lst_core_state.proofs.Functions.{put_here, put_else}

-- where some number passes, the least one does, and is no more
least_found : (p : ℕ → Bool) (n k b : ℕ) → k ≤ b → b < k + n → p b ≡ true → (p (least p n k) ≡ true) × (least p n k ≤ b)
least_found p zero k b low high passes = absurd (omega arith)
least_found p (suc n) k b low high passes = step (p k) refl (λ h. least_found p n (k + 1) b h (omega arith) passes)
  where
    step : (t : Bool) → p k ≡ t → (k + 1 ≤ b → (p (least p n (k + 1)) ≡ true) × (least p n (k + 1) ≤ b)) → (p (cond t k (least p n (k + 1))) ≡ true) × (cond t k (least p n (k + 1)) ≤ b)
    step true e rest = (e, low)
    step false e rest = rest (dite (ℕ_discrete k b) (λ f. absurd (true≢false (sym passes ∙ (ap p (sym f) ∙ e)))) (λ ne. omega arith))

pub bits_enough : (n b : ℕ) → b < 64 → n ≤ 2 ^ b → (n ≤ 2 ^ bits_for n) × (bits_for n ≤ b)
unfolding bits_for
bits_enough n b few enough = let q = least_found (λ j. nat_le n (2 ^ j)) 64 0 b (omega arith) (omega arith) (le-leb n (2 ^ b) enough) in (leb-true n (2 ^ bits_for n) q.0, q.1)

module _ (l : Limits) (sized : IsValid l) where
  pub size_enough : (2 * record_count l ≤ size l) × (index_bits l ≤ 15)
  unfolding size index_bits
  size_enough = let h = sized.ranges.1 in bits_enough (2 * record_count l) 15 (omega arith) (omega arith)

  pub records_low : record_count l < size l
  records_low = let h = size_enough.0 in let some = sized.ranges.0 in omega arith

  pub size_some : 0 < size l
  size_some = let h = records_low in omega arith

  pub first_low : (key : ℕ) → first_of l key < size l
  unfolding size first_of
  first_low key = let h = size_enough.1 in start_of-lt key (index_bits l) (omega arith)

  pub position_low : (key i : ℕ) → position_of l key i < size l
  position_low key i = run_position-lt (size l) (first_of l key) i size_some

  pub positions_apart : (key i j : ℕ) → i < size l → j < size l → position_of l key i ≡ position_of l key j → i ≡ j
  positions_apart key i j h k e = run_positions_apart (size l) (first_of l key) i j (first_low key) h k e

-- ---- records in the index

or_true : (a b : Bool) → (a || b) ≡ true → (a ≡ true) ⊎ (b ≡ true)
or_true true b e = inl refl
or_true false b e = inr e

or_right : (a b : Bool) → b ≡ true → (a || b) ≡ true
or_right true b e = refl
or_right false b e = e

or_left : (a b : Bool) → a ≡ true → (a || b) ≡ true
or_left a b e = ap (λ (c : Bool). c || b) e

pub held_says : (n : ℕ) (index : ℕ → ℕ) (r : ℕ) → held_in n index r ≡ true → (q : ℕ) × (q < n) × (index q ≡ r + 1)
held_says zero index r e = absurd (true≢false (sym e))
held_says (suc n) index r e = ⊎_elim
    (λ (f : eqb (index n) (r + 1) ≡ true). (n, omega arith, eqb-true (index n) (r + 1) f))
    (λ (f : held_in n index r ≡ true). let q = held_says n index r f in (q.0, let h = q.1 in omega arith, q.2))
    (or_true (eqb (index n) (r + 1)) (held_in n index r) e)

pub held_holds : (n : ℕ) (index : ℕ → ℕ) (r q : ℕ) → q < n → index q ≡ r + 1 → held_in n index r ≡ true
held_holds zero index r q low e = absurd (omega arith)
held_holds (suc n) index r q low e = dite (ℕ_discrete q n)
    (λ f. or_left (eqb (index n) (r + 1)) (held_in n index r) (eq-eqb (index n) (r + 1) (ap index (sym f) ∙ e)))
    (λ ne. or_right (eqb (index n) (r + 1)) (held_in n index r) (held_holds n index r q (omega arith) e))

pub placed_says : (l : Limits) (index : ℕ → ℕ) (r : ℕ) → is_placed l index r ≡ true → (q : ℕ) × (q < size l) × (index q ≡ r + 1)
unfolding is_placed
placed_says l index r e = held_says (size l) index r e

pub placed_holds : (l : Limits) (index : ℕ → ℕ) (r q : ℕ) → q < size l → index q ≡ r + 1 → is_placed l index r ≡ true
unfolding is_placed
placed_holds l index r q low e = held_holds (size l) index r q low e

-- a free position takes the record r
module _ (l : Limits) (index : ℕ → ℕ) (q r : ℕ) (low : q < size l) (free : index q ≡ 0) where
  pub placed_more : (p : ℕ) → is_placed l index p ≡ true → is_placed l (put index q (r + 1)) p ≡ true
  placed_more p is = let h = placed_says l index p is in placed_holds l (put index q (r + 1)) p h.0 h.1 (put_else index q (r + 1) h.0 (λ e. let f = ap index e in let g = h.2 in omega arith) ∙ h.2)

  pub placed_new : (p : ℕ) → is_placed l (put index q (r + 1)) p ≡ true → (p ≡ r) ⊎ (is_placed l index p ≡ true)
  placed_new p is = let h = placed_says l (put index q (r + 1)) p is in dite (ℕ_discrete h.0 q)
      (λ e. inl (let a : put index q (r + 1) h.0 ≡ r + 1 = ap (put index q (r + 1)) e ∙ put_here index q (r + 1) in let b = h.2 in omega arith))
      (λ ne. inr (placed_holds l index p h.0 h.1 (sym (put_else index q (r + 1) h.0 ne) ∙ h.2)))

  pub placed_here : is_placed l (put index q (r + 1)) r ≡ true
  placed_here = placed_holds l (put index q (r + 1)) r q low (put_here index q (r + 1))
