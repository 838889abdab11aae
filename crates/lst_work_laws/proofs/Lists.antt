-- Lists.
use Rattle.std.proofs.Common.{⊎_elim, ℕ, ◌<◌, List, length, arith}
use Rattle.std.proofs.lemmas.Option.{slice_get_cases}

-- some element stands at each place
pub element : {X : Type 0} (xs : List X) (i : ℕ) → i < length xs → X
element xs i low = ⊎_elim (λ a. a.0) (λ b. absurd (omega (arith, b.0))) (slice_get_cases xs i).1
