-- The positions of a key's run, as the program computes them.
use Rattle.std.proofs.Common.{◌≡◌, ℕ, ◌+◌, ◌%◌, ◌^◌, ◌<◌, ◌≤◌, sym, subst, ap, ◌∙◌, refl, arith}
use Rattle.std.proofs.Math.Nat.{mod-eq_of_lt}
use Rattle.std.proofs.Math.Pow.{pow_mono}
use mathlib.Core.Logic.{dite}
use native.Mathlib.Decide.{ℕ_discrete}
use Rattle.lst_layout.specs.declared.limits.Limits.{Limits}
use Rattle.lst_layout.specs.Limits.{IsValid}
use Rattle.lst_layout.specs.Areas.{index_bits, index_positions}
use Rattle.lst_probe.specs.Run.{start_of, run_position}
use Rattle.lst_core_state.specs.Index.{size, first_of, position_of}
use Rattle.lst_core_state.proofs.Positions.{size_enough, position_low}

pub size_is : (l : Limits) → size l ≡ index_positions l
unfolding size
size_is l = refl

module _ (l : Limits) (sized : IsValid l) where
  pub bits_some : 1 ≤ index_bits l
  unfolding size
  bits_some = dite (ℕ_discrete (index_bits l) 0)
      (λ e. let h = (size_enough l sized).0 in let some = sized.ranges.0 in let one : size l ≡ 2 ^ 0 = ap (λ (b : ℕ). 2 ^ b) e in absurd (omega arith))
      (λ ne. omega arith)

  pub size_few : size l ≤ 2 ^ 15
  unfolding size
  size_few = pow_mono (size_enough l sized).1

  pub position_is : (key offset first : ℕ) → first ≡ start_of key (index_bits l) → (positions : ℕ) → positions ≡ index_positions l → (first + offset) % positions ≡ position_of l key offset
  unfolding size first_of run_position
  position_is key offset first e positions f = λ i. (e i + offset) % f i

  pub position_below : (key offset first : ℕ) → first ≡ start_of key (index_bits l) → (positions : ℕ) → positions ≡ index_positions l → (first + offset) % positions < size l
  position_below key offset first e positions f = subst (λ (q : ℕ). q < size l) (sym (position_is key offset first e positions f)) (position_low l sized key offset)

  -- the first one is where the run starts
  pub start_is : (key offset first bits : ℕ) → offset ≡ 0 → bits ≡ index_bits l → first ≡ start_of key bits → first < 2 ^ bits → first ≡ position_of l key offset
  unfolding size
  start_is key offset first bits none b e low = let short : first + offset < index_positions l = subst (λ (k : ℕ). first + offset < 2 ^ k) b (omega arith) in let same : first ≡ first + offset = omega arith in
      same ∙ sym (mod-eq_of_lt short) ∙ position_is key offset first (e ∙ ap (start_of key) b) (index_positions l) refl
