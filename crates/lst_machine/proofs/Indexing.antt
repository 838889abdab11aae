-- Whether a bit is set.
use Rattle.std.proofs.Common.{◌≡◌, ℕ, ◌*◌, ◌/◌, ◌%◌, ◌^◌, ◌<◌, ◌≤◌, Bool, true, false, not, eqb, bit_and, refl, sym, ap, ◌∙◌, subst, arith}
use Rattle.std.specs.Int.{bit_at}
use Rattle.std.proofs.lemmas.Bool.{eq-eqb, ne_eqb, eqb-true, eqb-false}
use Rattle.std.proofs.Math.Nat.{pow-le-pow_right}
use Rattle.std.proofs.lemmas.Nat.{pow_pos, mod_below, div_below}
use Rattle.std.proofs.lemmas.Nat.Bits.{and_pow, shr_and_one}

two_cases : (b power : ℕ) → b < 2 → 0 < power → eqb b 1 ≡ not (eqb (b * power) 0)
two_cases b power low some = by_test (eqb b 1) refl
  where
    by_test : (t : Bool) → eqb b 1 ≡ t → t ≡ not (eqb (b * power) 0)
    by_test true is =
        let one : b ≡ 1 = eqb-true b 1 is in
        sym (ap not (ne_eqb (b * power) 0 (λ e. let k : 1 * power ≡ 0 = subst (λ (n : ℕ). n * power ≡ 0) one e in absurd (omega arith))))
    by_test false is =
        let zero_here : b ≡ 0 = small (eqb-false b 1 is) in
        sym (ap not (eq-eqb (b * power) 0 (ap (λ (n : ℕ). n * power) zero_here ∙ omega arith)))
      where
        small : ¬ (b ≡ 1) → b ≡ 0
        small other = omega arith

pub indexed_within : (n column : ℕ) → eqb (bit_and (n / 2 ^ column) 1) 1 ≡ not (eqb (bit_and n (2 ^ column)) 0)
indexed_within n column =
    ap (λ (b : ℕ). eqb b 1) (shr_and_one n column)
    ∙ two_cases (bit_at n column) (2 ^ column) (mod_below (n / 2 ^ column) 2 (omega arith)) (pow_pos column)
    ∙ ap (λ (m : ℕ). not (eqb m 0)) (sym (and_pow n column))

pub indexed_past : (n column : ℕ) → n < 2 ^ 32 → 32 ≤ column → false ≡ not (eqb (bit_and n (2 ^ column)) 0)
indexed_past n column low past =
    sym (ap not (eq-eqb (bit_and n (2 ^ column)) 0 (and_pow n column ∙ ap (λ (b : ℕ). b * 2 ^ column) none ∙ omega arith)))
  where
    zero_of : {m : ℕ} → m < 1 → m ≡ 0
    zero_of h = omega arith

    none : bit_at n column ≡ 0
    none =
        let wide : 2 ^ 32 ≤ 2 ^ column = pow-le-pow_right {n = 2} (omega arith) past in
        let few : n / 2 ^ column < 1 = div_below n (2 ^ column) 1 (pow_pos column) (omega (arith, wide, low)) in
        ap (λ (m : ℕ). m % 2) (zero_of few)
