-- The positions of a value's run, as the program computes them.
use Rattle.std.proofs.Common.{◌≡◌, ℕ, ◌+◌, ◌*◌, ◌%◌, ◌^◌, ◌<◌, ◌≤◌, sym, subst, ap, refl, ◌∙◌, arith, mul-le-mul}
use mathlib.Core.Logic.{dite}
use native.Mathlib.Decide.{ℕ_discrete}
use Rattle.lst_layout.specs.declared.limits.Limits.{Limits}
use Rattle.lst_layout.specs.Limits.{IsValid}
use Rattle.lst_layout.specs.Areas.{posting_bits, posting_positions}
use Rattle.lst_probe.specs.Run.{start_of, run_position}
use Rattle.lst_core_state.specs.Cells.{tail_count}
use Rattle.lst_core_state.specs.Postings.{postings_size, value_first, value_position}
use Rattle.lst_core_state.proofs.PostingsKept.{tails_some, tails_low, value_position_low}

pub size_is : (l : Limits) → postings_size l ≡ posting_positions l
unfolding postings_size
size_is l = refl

-- an offset of the loop is below the size
pub offset_short : (l m : Limits) (all offset : ℕ) → offset < all → all ≡ posting_positions l → l ≡ m → offset < postings_size m
offset_short l m all offset low is same = subst (λ (z : Limits). offset < postings_size z) same (subst (λ (n : ℕ). offset < n) (is ∙ sym (size_is l)) low)

pub offsets_over : (l m : Limits) (all offset : ℕ) → all ≤ offset → all ≡ posting_positions l → l ≡ m → postings_size m ≤ offset
offsets_over l m all offset low is same = subst (λ (z : Limits). postings_size z ≤ offset) same (subst (λ (n : ℕ). n ≤ offset) (is ∙ sym (size_is l)) low)

module _ (l : Limits) (sized : IsValid l) where
  pub bits_some : 1 ≤ posting_bits l
  unfolding postings_size
  bits_some = dite (ℕ_discrete (posting_bits l) 0)
      (λ e. let low = tails_low l sized in let some = tails_some l sized in let one : postings_size l ≡ 2 ^ 0 = ap (λ (b : ℕ). 2 ^ b) e in absurd (omega arith))
      (λ ne. omega arith)

  pub position_is : (value offset first : ℕ) → first ≡ start_of value (posting_bits l) → (positions : ℕ) → positions ≡ posting_positions l → (first + offset) % positions ≡ value_position l value offset
  unfolding postings_size value_first run_position
  position_is value offset first e positions f = λ i. (e i + offset) % f i

  pub position_below : (value offset first : ℕ) → first ≡ start_of value (posting_bits l) → (positions : ℕ) → positions ≡ posting_positions l → (first + offset) % positions < postings_size l
  position_below value offset first e positions f = subst (λ (q : ℕ). q < postings_size l) (sym (position_is value offset first e positions f)) (value_position_low l sized value offset)

  -- a tail fits a word of 32 bits
  pub tails_fit : tail_count l < 2 ^ 32
  tails_fit = let a = sized.ranges.1 in let b = sized.tails.1 in let h : tail_count l ≤ 64 * 16384 = mul-le-mul a b in omega arith
