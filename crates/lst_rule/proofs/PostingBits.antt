-- What an encoding word says of a tail, as the program computes it.
use Rattle.std.proofs.Common.{◌≡◌, ℕ, zero, suc, ◌+◌, ◌-◌, ◌*◌, ◌/◌, ◌%◌, ◌^◌, ◌<◌, ◌≤◌, true, sym, ap, ◌∙◌, arith, eq-eqb}
use Rattle.std.proofs.Math.Nat.{pow-le-pow_right, pow-succ', div-div-eq-div-mul}
use Rattle.lst_core_state.specs.Cells.{has_bit, record_of, tail_range}

pub record_is : (tails tail encoding : ℕ) → (tail - 1) / tails * 256 + encoding / 65536 % 256 ≡ record_of tails tail encoding
unfolding record_of tail_range
record_is tails tail encoding = let d : ℕ = (tail - 1) / tails in omega arith

-- ---- a mask of all columns

-- a bit is taken off
halve : (m b c : ℕ) → b < 2 → (2 * m + b) / 2 ^ suc c ≡ m / 2 ^ c
halve m b c low = ap (λ (d : ℕ). (2 * m + b) / d) (pow-succ' 2 c) ∙ (sym (div-div-eq-div-mul (2 * m + b) 2 (2 ^ c)) ∙ ap (λ (x : ℕ). x / 2 ^ c) (let e : (2 * m + b) / 2 ≡ m = omega arith in e))

all_bits : (n : ℕ) → 2 ^ suc n - 1 ≡ 2 * (2 ^ n - 1) + 1
all_bits n = let some : 2 ^ 0 ≤ 2 ^ n = pow-le-pow_right {n = 2} (omega arith) {i = 0} {j = n} (omega arith) in let f : 2 ^ suc n ≡ 2 * 2 ^ n = pow-succ' 2 n in omega arith

-- it has each
pub full_bit : (n c : ℕ) → c < n → (2 ^ n - 1) / 2 ^ c % 2 ≡ 1
full_bit zero c low = absurd (omega arith)
full_bit (suc n) zero low = let e = all_bits n in omega arith
full_bit (suc n) (suc c) low = ap (λ (x : ℕ). x / 2 ^ suc c % 2) (all_bits n) ∙ (ap (λ (x : ℕ). x % 2) (halve (2 ^ n - 1) 1 c (omega arith)) ∙ full_bit n c (omega arith))

pub full_has : (n c : ℕ) → c < n → has_bit (2 ^ n - 1) c ≡ true
full_has n c low = eq-eqb ((2 ^ n - 1) / 2 ^ c % 2) 1 (full_bit n c low)
