-- The flags of counters.
use Rattle.std.proofs.Common.{◌≡◌, ℕ, zero, suc, ◌<◌, ◌≤◌, List, [], ◌∷◌, Bool, false, length, get_or, set, refl, ap, arith}
use Rattle.lst_core_state.specs.declared.known.Counter.{Counter}
use Rattle.lst_core_state.specs.State.{no_counter}
use Rattle.lst_core_state.specs.Numbers.{flags}

pub flags_at : (n : ℕ) (cs : List Counter) (i : ℕ) → i < n → get_or (flags n cs) i false ≡ (get_or cs i no_counter).is_serving
flags_at zero cs i low = absurd (omega arith)
flags_at (suc n) [] zero low = refl
flags_at (suc n) [] (suc i) low = flags_at n [] i (omega arith)
flags_at (suc n) (c ∷ cs) zero low = refl
flags_at (suc n) (c ∷ cs) (suc i) low = flags_at n cs i (omega arith)

pub flags_set : (n : ℕ) (cs : List Counter) (i : ℕ) (c : Counter) → i < length cs → length cs ≤ n → set (flags n cs) i c.is_serving ≡ flags n (set cs i c)
flags_set n [] i c low few = absurd (omega arith)
flags_set zero (d ∷ cs) i c low few = absurd (omega arith)
flags_set (suc n) (d ∷ cs) zero c low few = refl
flags_set (suc n) (d ∷ cs) (suc i) c low few = ap (λ (l : List Bool). d.is_serving ∷ l) (flags_set n cs i c (omega arith) (omega arith))
