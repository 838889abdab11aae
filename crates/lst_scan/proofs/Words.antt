-- Words of which the lowest bits are set.
use Rattle.std.proofs.Common.{◌≡◌, ℕ, ◌%◌, bit_and, arith}
use Rattle.std.proofs.lemmas.Nat.Bits.{bit_at_and, bit_at_lowest}

-- both numbers are odd where what they have in common is
pub both_odd : (a b : ℕ) → bit_and a b % 2 ≡ 1 → (a % 2 ≡ 1) × (b % 2 ≡ 1)
both_odd a b odd = let both = bit_at_and a b 0 in let c = bit_at_lowest (bit_and a b) in let d = bit_at_lowest a in let e = bit_at_lowest b in (omega arith, omega arith)

-- and the other way round
pub and_odd : (a b : ℕ) → a % 2 ≡ 1 → b % 2 ≡ 1 → bit_and a b % 2 ≡ 1
and_odd a b x y = let both = bit_at_and a b 0 in let c = bit_at_lowest (bit_and a b) in let d = bit_at_lowest a in let e = bit_at_lowest b in omega arith
