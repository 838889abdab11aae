-- The act of a tail, by its words.
use Rattle.std.proofs.Common.{◌≡◌, ℕ, zero, suc, ◌+◌, ◌-◌, ◌*◌, ◌/◌, ◌%◌, List, [], ◌∷◌, ◌++◌, ap, ◌∙◌, arith}
use Rattle.lst_core_state.specs.Cells.{listed, record_of, tail_range}

-- ---- lists

pub listed_more : (word : ℕ → ℕ) (p n : ℕ) → listed word p n ++ word (p + n) ∷ [] ≡ listed word p (n + 1)
listed_more word p n = next p n ∙ ap (listed word p) (let e : suc n ≡ n + 1 = omega arith in e)
  where
    next : (q m : ℕ) → listed word q m ++ word (q + m) ∷ [] ≡ listed word q (suc m)
    next q zero = ap (λ (x : ℕ). word x ∷ []) (let e : q + zero ≡ q = omega arith in e)
    next q (suc m) = ap (λ (xs : List ℕ). word q ∷ xs) (ap (λ (x : ℕ). listed word (suc q) m ++ word x ∷ []) (let e : q + suc m ≡ suc q + m = omega arith in e) ∙ next (suc q) m)

-- ---- encodings

-- the record that an encoding word's slot names
pub record_is : (tails t e slot : ℕ) → slot ≡ e / 65536 % 256 → 256 * ((t - 1) / tails) + slot ≡ record_of tails t e
unfolding record_of tail_range
record_is tails t e slot is = ap (λ (k : ℕ). 256 * ((t - 1) / tails) + k) is
