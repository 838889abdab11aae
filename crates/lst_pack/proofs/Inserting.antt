-- A value put among others that rise.
use Rattle.std.proofs.Common.{◌≡◌, ◌≢◌, ℕ, ◌+◌, ◌-◌, ◌<◌, ◌≤◌, ◌⊎◌, ⊎_elim, inl, inr, List, slice_index, ap, arith, sym, ◌∙◌}
use mathlib.Core.Logic.{dite}
use native.Mathlib.Decide.{dec_lt, ℕ_discrete}
use Rattle.lst_pack.specs.Counts.{IsNew, Rises}

-- `later` is `known` with the value put in at this place
pub record IsInserted (known later : List ℕ) (count at value : ℕ) : Type 0 where
  pub within : at ≤ count
  pub below : (code : ℕ) → code < at → slice_index later code ≡ slice_index known code
  pub here : slice_index later at ≡ value
  pub above : (code : ℕ) → at ≤ code → code < count → slice_index later (code + 1) ≡ slice_index known code

item : (known later : List ℕ) (count at value : ℕ) → IsInserted known later count at value → (code : ℕ) → code < count + 1
    → ((code < at) × (slice_index later code ≡ slice_index known code)) ⊎ (((code ≡ at) × (slice_index later code ≡ value)) ⊎ ((at < code) × (slice_index later code ≡ slice_index known (code - 1))))
item known later count at value is code low = dite (dec_lt code at) (λ (h : code < at). inl (h, is.below code h))
    (λ past. dite (ℕ_discrete code at) (λ (e : code ≡ at). inr (inl (e, ap (λ n. slice_index later n) e ∙ is.here)))
    (λ ne. inr (inr (let h : at < code = omega (arith, past, ne) in h, let h : at < code = omega (arith, past, ne) in let e : code ≡ code - 1 + 1 = omega arith in ap (λ n. slice_index later n) e ∙ is.above (code - 1) (omega arith) (omega arith)))))

pub inserted_rises : (known later : List ℕ) (count at value : ℕ) → IsInserted known later count at value → Rises known count
    → ((code : ℕ) → code < at → slice_index known code < value) → ((code : ℕ) → at ≤ code → code < count → value < slice_index known code) → Rises later (count + 1)
inserted_rises known later count at value is rises below above code next order low =
    ⊎_elim (λ (a : (code < at) × (slice_index later code ≡ slice_index known code)).
    ⊎_elim (λ (b : (next < at) × (slice_index later next ≡ slice_index known next)). let within = is.within in let r = rises code next order (omega arith) in omega arith)
    (λ (rest : ((next ≡ at) × (slice_index later next ≡ value)) ⊎ ((at < next) × (slice_index later next ≡ slice_index known (next - 1)))).
    ⊎_elim (λ (b : (next ≡ at) × (slice_index later next ≡ value)). let r = below code a.0 in omega arith)
    (λ (b : (at < next) × (slice_index later next ≡ slice_index known (next - 1))). let r = below code a.0 in let s = above (next - 1) (omega arith) (omega arith) in omega arith) rest)
    (item known later count at value is next low))
    (λ (rest : ((code ≡ at) × (slice_index later code ≡ value)) ⊎ ((at < code) × (slice_index later code ≡ slice_index known (code - 1)))).
    ⊎_elim (λ (a : (code ≡ at) × (slice_index later code ≡ value)). let b = after next (omega arith, omega arith) in let s = above (next - 1) (omega arith) (omega arith) in omega arith)
    (λ (a : (at < code) × (slice_index later code ≡ slice_index known (code - 1))). let b = after next (omega arith, omega arith) in let s = rises (code - 1) (next - 1) (omega arith) (omega arith) in omega arith) rest)
    (item known later count at value is code (omega arith))
  where
    after : (n : ℕ) → (at < n) × (n < count + 1) → slice_index later n ≡ slice_index known (n - 1)
    after n h = let e : n ≡ n - 1 + 1 = omega arith in ap (λ m. slice_index later m) e ∙ is.above (n - 1) (omega arith) (omega arith)

pub inserted_new : (known later : List ℕ) (count at value : ℕ) → IsInserted known later count at value → (code : ℕ) → code < count + 1 → IsNew known count value (slice_index later code)
inserted_new known later count at value is code low =
    ⊎_elim (λ (a : (code < at) × (slice_index later code ≡ slice_index known code)). let within = is.within in inr (code, omega arith, sym a.1))
    (λ (rest : ((code ≡ at) × (slice_index later code ≡ value)) ⊎ ((at < code) × (slice_index later code ≡ slice_index known (code - 1)))).
    ⊎_elim (λ (a : (code ≡ at) × (slice_index later code ≡ value)). inl a.1)
    (λ (a : (at < code) × (slice_index later code ≡ slice_index known (code - 1))). inr (code - 1, omega arith, sym a.1)) rest)
    (item known later count at value is code low)

-- a value that is at most the item at its place, and another, is below each item from there on
pub above_known : (known : List ℕ) (count at value code : ℕ) → Rises known count → at < count → value ≤ slice_index known at → slice_index known at ≢ value
    → at ≤ code → code < count → value < slice_index known code
above_known known count at value code rises within least other from low = dite (dec_lt at code)
    (λ (h : at < code). let r = rises at code h low in omega arith)
    (λ past. let e : at ≡ code = omega (arith, past) in let f = ap (λ n. slice_index known n) e in omega arith)
