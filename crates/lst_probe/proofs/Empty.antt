-- Where a position must be empty.
use Rattle.std.proofs.Common.{◌≡◌, ◌≢◌, ◌⊎◌, ⊎_elim, inl, inr, ℕ, zero, suc, ◌-◌, ◌<◌, ◌≤◌, cond, nat_lt, [], ◌∷◌, subst, ap, arith, lt-ltb, pos_of_ne-zero, below_more}
use Rattle.std.proofs.lemmas.List.Sums.{sum_by-cons}
use mathlib.Core.Logic.{dite}
use native.Mathlib.Decide.{ℕ_discrete}
use Rattle.lst_probe.specs.Run.{run_position}
use Rattle.lst_probe.specs.Counting.{FewerLeaveEmpty, EntriesLeaveEmpty, RunsEnd}
use Rattle.lst_probe.proofs.Counting.{pigeonhole}
use Rattle.lst_probe.proofs.Runs.{run_covers}

-- a function is 0 first at some number below n, or at none
pub first_zero : (f : ℕ → ℕ) (n : ℕ) → ((k : ℕ) × (k < n) × (f k ≡ 0) × ((i : ℕ) → i < k → 0 < f i)) ⊎ ((k : ℕ) → k < n → 0 < f k)
first_zero f zero = inr (λ k h. absurd (omega arith))
first_zero f (suc n) = ⊎_elim (λ (z : (k : ℕ) × (k < n) × (f k ≡ 0) × ((i : ℕ) → i < k → 0 < f i)). inl (z.0, (let h : z.0 < n = z.1 in omega arith), z.2, z.3))
    (λ (all : (k : ℕ) → k < n → 0 < f k). dite (ℕ_discrete (f n) 0) (λ (e : f n ≡ 0). inl (n, omega arith, e, all))
    (λ (e : f n ≢ 0). inr (λ k h. below_more (λ (i : ℕ). 0 < f i) n all (pos_of_ne-zero e) k (omega (arith, h))))) (first_zero f n)

pub runs_end : RunsEnd
runs_end word n from q low inside empty = ⊎_elim (λ (z : (k : ℕ) × (k < n) × (word (run_position n from k) ≡ 0) × ((i : ℕ) → i < k → 0 < word (run_position n from i))). z)
    (λ (all : (k : ℕ) → k < n → 0 < word (run_position n from k)). let k = run_covers n from q low inside in let filled : 0 < word q = subst (λ (p : ℕ). 0 < word p) k.2 (all k.0 k.1) in absurd (omega (arith, filled, empty)))
    (first_zero (λ k. word (run_position n from k)) n)

pub entries_leave_empty : EntriesLeaveEmpty
entries_leave_empty word n m few low apart = ⊎_elim (λ (z : (k : ℕ) × (k < n) × (word k ≡ 0) × ((i : ℕ) → i < k → 0 < word i)). (z.0, z.1, z.2))
    (λ (all : (k : ℕ) → k < n → 0 < word k). let none : n ≤ m = pigeonhole n m (λ q. word q - 1) (λ q h. let a = all q h in let b = low q h in omega arith)
    (λ p q h k e. apart p q h k (all p h) (let a = all p h in let b = all q k in omega arith)) in absurd (omega arith))
    (first_zero word n)

pub fewer_leave_empty : FewerLeaveEmpty
fewer_leave_empty [] few = absurd (omega (arith, few))
fewer_leave_empty (word ∷ positions) few = dite (ℕ_discrete word 0) (λ (e : word ≡ 0). (0, omega arith, e))
    (λ (e : word ≢ 0). let more = sum_by-cons (λ w. cond (nat_lt 0 w) 1 0) word positions in let one : ◌≡◌ {A = ℕ} (cond (nat_lt 0 word) 1 0) 1 = ap (λ b. cond b 1 0) (lt-ltb 0 word (pos_of_ne-zero e)) in
    let rest = fewer_leave_empty positions (omega (arith, few, more, one)) in let h = rest.1 in (suc rest.0, omega arith, rest.2))
