-- The positions of a run, and what it passes.
use Rattle.std.proofs.Common.{◌≡◌, ◌⊎◌, ⊎_elim, inl, inr, ℕ, ◌+◌, ◌-◌, ◌*◌, ◌%◌, ◌^◌, ◌<◌, ◌≤◌, bit_and, sym, subst, ap, ◌∙◌, arith, below_more}
use Rattle.std.proofs.Math.Nat.{mod-lt, mod-eq_of_lt, mod-eq-sub-mod}
use Rattle.std.proofs.lemmas.Nat.{and_mask, shr_below}
use mathlib.Core.Logic.{dite}
use native.Mathlib.Decide.{dec_lt}
use Rattle.lst_probe.specs.Run.{IsPowerOfTwo, start_of, run_position, Passes, IsReachable, ReachableStays}

-- ---- where a run begins

pub start_of-lt : (value bits : ℕ) → bits ≤ 64 → start_of value bits < 2 ^ bits
unfolding start_of
start_of-lt value bits few = shr_below hashed bits (64 - bits) (let same : bits + (64 - bits) ≡ 64 = omega arith in subst (λ (n : ℕ). hashed < 2 ^ n) (sym same) (mod-lt (value * 11400714819323198485) (omega arith)))
  where
    hashed : ℕ
    hashed = (value * 11400714819323198485) % 2 ^ 64

-- ---- the positions of a run

pub run_position-lt : (n from k : ℕ) → 0 < n → run_position n from k < n
unfolding run_position
run_position-lt n from k some = mod-lt (from + k) some

-- it lies before the end of the table, or past it by once the table
pub run_position_cases : (n from k : ℕ) → from < n → k < n → ((from + k < n) × (run_position n from k ≡ from + k)) ⊎ ((n ≤ from + k) × (run_position n from k + n ≡ from + k))
unfolding run_position
run_position_cases n from k low short = dite (dec_lt (from + k) n) (λ h. inl (h, mod-eq_of_lt h)) (λ h. let past : n ≤ from + k = omega (arith, h) in let low : from + k - n < n = omega arith in
    let rest : (from + k) % n ≡ from + k - n = mod-eq-sub-mod past ∙ mod-eq_of_lt low in inr (past, omega arith))

-- the first positions of a run, as many as the table has, differ
pub run_positions_apart : (n from i j : ℕ) → from < n → i < n → j < n → run_position n from i ≡ run_position n from j → i ≡ j
run_positions_apart n from i j low h k e =
    ⊎_elim (λ (a : (from + i < n) × (run_position n from i ≡ from + i)). ⊎_elim (λ (b : (from + j < n) × (run_position n from j ≡ from + j)). omega arith) (λ (b : (n ≤ from + j) × (run_position n from j + n ≡ from + j)). omega arith) (run_position_cases n from j low k))
    (λ (a : (n ≤ from + i) × (run_position n from i + n ≡ from + i)). ⊎_elim (λ (b : (from + j < n) × (run_position n from j ≡ from + j)). omega arith) (λ (b : (n ≤ from + j) × (run_position n from j + n ≡ from + j)). omega arith) (run_position_cases n from j low k))
    (run_position_cases n from i low h)

-- and they are all positions of the table
pub run_covers : (n from position : ℕ) → from < n → position < n → (k : ℕ) × (k < n) × (run_position n from k ≡ position)
run_covers n from position low inside = dite (dec_lt position from)
    (λ before. turned (n - from + position) (omega (arith, before)) (omega (arith, before)))
    (λ after. let ahead : from ≤ position = omega (arith, after) in reached (position - from) (omega arith) (omega arith))
  where
    reached : (k : ℕ) → k < n → from + k ≡ position → (k : ℕ) × (k < n) × (run_position n from k ≡ position)
    reached k short is = (k, short, ⊎_elim (λ (a : (from + k < n) × (run_position n from k ≡ from + k)). omega arith) (λ (a : (n ≤ from + k) × (run_position n from k + n ≡ from + k)). absurd (omega arith)) (run_position_cases n from k low short))

    turned : (k : ℕ) → k < n → from + k ≡ position + n → (k : ℕ) × (k < n) × (run_position n from k ≡ position)
    turned k short is = (k, short, ⊎_elim (λ (a : (from + k < n) × (run_position n from k ≡ from + k)). absurd (omega arith)) (λ (a : (n ≤ from + k) × (run_position n from k + n ≡ from + k)). omega arith) (run_position_cases n from k low short))

-- a mask wraps round
pub run_position-mask : (n from k : ℕ) → IsPowerOfTwo n → bit_and (from + k) (n - 1) ≡ run_position n from k
unfolding run_position
run_position-mask n from k power = subst (λ (m : ℕ). bit_and (from + k) (m - 1) ≡ (from + k) % m) (sym power.1) (and_mask (from + k) power.0)

-- ---- what a run passes

module _ (word : ℕ → ℕ) (IsOther : ℕ → Type 0) (n from : ℕ) where
  pub passes_none : Passes word IsOther n from 0
  passes_none i h = absurd (omega arith)

  pub passes_next : (k : ℕ) → Passes word IsOther n from k → 0 < word (run_position n from k) → IsOther (word (run_position n from k)) → Passes word IsOther n from (k + 1)
  passes_next k passes filled other = below_more (λ (i : ℕ). (0 < word (run_position n from i)) × IsOther (word (run_position n from i))) k passes (filled, other)

  -- a run that passes the whole table has no empty position
  pub none_empty : from < n → Passes word IsOther n from n → (position : ℕ) → position < n → 0 < word position
  none_empty low passes position inside = let k = run_covers n from position low inside in subst (λ (q : ℕ). 0 < word q) k.2 (passes k.0 k.1).0

  -- what is reachable from the start of a run that comes to an empty position is one of the other words
  pub absent_from_run : from < n → (k : ℕ) → k < n → Passes word IsOther n from k → word (run_position n from k) ≡ 0 → (position : ℕ) → IsReachable word n from position → 0 < word position → IsOther (word position)
  absent_from_run low k short passes empty position reach filled = dite (dec_lt reach.offset k)
      (λ (before : reach.offset < k). subst (λ (q : ℕ). IsOther (word q)) (sym reach.is) (passes reach.offset before).1)
      (λ past. dite (dec_lt k reach.offset)
      (λ (before : k < reach.offset). let full = reach.filled k before in absurd (omega (arith, full, empty)))
      (λ upto. let same : reach.offset ≡ k = omega (arith, past, upto) in let none : word position ≡ 0 = ap word (reach.is ∙ ap (run_position n from) same) ∙ empty in absurd (omega (arith, none, filled))))

pub reachable_stays : ReachableStays
reachable_stays word later n start position stays reach = record { offset = reach.offset; short = reach.short; is = reach.is; filled = λ i h. stays (run_position n start i) (reach.filled i h) }
