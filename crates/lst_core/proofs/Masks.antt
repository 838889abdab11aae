-- The mask of all places of a cell but its start word, and the bits of an encoding word.
use Rattle.std.proofs.Common.{◌≡◌, ◌≢◌, ℕ, ◌+◌, ◌*◌, ◌/◌, ◌%◌, ◌^◌, ◌<◌, ◌≤◌, Bool, false, not, eqb, sym, ap, ◌∙◌, arith, eq-eqb, ne_eqb, ◌&&◌}
use Rattle.std.proofs.Math.Nat.{pow-le-pow_right, mod-eq_of_lt}
use Rattle.lst_bits.specs.Encodings.{has_number}
use Rattle.lst_core_state.specs.Cells.{has_bit, mask_of, nulls_of}

pub mask_bounds : (c : ℕ) → c ≤ 8 → (2 ≤ 2 ^ (3 + c)) × (2 ^ (3 + c) ≤ 2048)
mask_bounds c few = (pow-le-pow_right {n = 2} (omega arith) {i = 1} {j = 3 + c} (omega arith), pow-le-pow_right {n = 2} (omega arith) {i = 3 + c} {j = 11} (omega arith))

pub mask_some : (c : ℕ) → c ≤ 8 → 2 ≤ 1 * 2 ^ (3 + c) % 4294967296
mask_some c few = let h = mask_bounds c few in let a = h.0 in let b = h.1 in let e : 1 * 2 ^ (3 + c) % 4294967296 ≡ 1 * 2 ^ (3 + c) = mod-eq_of_lt (omega arith) in omega arith

pub mask_is : (c : ℕ) → c ≤ 8 → 1 * 2 ^ (3 + c) % 4294967296 ≡ 2 ^ (3 + c)
mask_is c few = let h = mask_bounds c few in let b = h.1 in let e : 1 * 2 ^ (3 + c) % 4294967296 ≡ 1 * 2 ^ (3 + c) = mod-eq_of_lt (omega arith) in omega arith

-- one bit, shifted to a column
pub bit_is : (c : ℕ) → c < 8 → 1 * 2 ^ c % 18446744073709551616 ≡ 2 ^ c
bit_is c few = let h : 2 ^ c ≤ 2 ^ 7 = pow-le-pow_right {n = 2} (omega arith) {i = c} {j = 7} (omega arith) in let e : 1 * 2 ^ c % 18446744073709551616 ≡ 1 * 2 ^ c = mod-eq_of_lt (omega arith) in omega arith

-- a column that the mask names has a number where it isn't null
pub number_named : (e c bit : ℕ) → bit ≡ 2 ^ c → e % 256 / bit % 2 ≡ 1 → not (eqb (e / 16777216 / bit % 2) 1) ≡ has_number e c
unfolding has_number
number_named e c bit is named = sym (ap (λ (b : Bool). b && not (has_bit (nulls_of e) c)) (eq-eqb (mask_of e / 2 ^ c % 2) 1 (ap (λ (d : ℕ). e % 256 / d % 2) (sym is) ∙ named)) ∙ ap (λ (d : ℕ). not (eqb (e / 16777216 / d % 2) 1)) (sym is))

pub number_unnamed : (e c bit : ℕ) → bit ≡ 2 ^ c → e % 256 / bit % 2 ≢ 1 → has_number e c ≡ false
unfolding has_number
number_unnamed e c bit is other = ap (λ (b : Bool). b && not (has_bit (nulls_of e) c)) (ne_eqb (mask_of e / 2 ^ c % 2) 1 (λ f. other (ap (λ (d : ℕ). e % 256 / d % 2) is ∙ f)))
