-- What a probe answers.
use Rattle.std.specs.Prelude.{◌≡◌, ℕ, ◌<◌, Bool, true, false}
use Rattle.lst_probe.specs.declared.Found.{Found}
use Rattle.lst_probe.specs.declared.Found.TheVariants.{At, Free}
use Rattle.lst_probe.specs.Run.{Reaches}

-- it ended at the first position of the run with a word that is the same, or else at the run's first empty position
abbrev pub Answers : (ℕ → ℕ) → (ℕ → Type 0) → (ℕ → Type 0) → ℕ → ℕ → Found → Type 0
Answers word IsSame IsOther n from (At position) = Reaches word IsOther n from position × (0 < word position) × IsSame (word position)
Answers word IsSame IsOther n from (Free position) = Reaches word IsOther n from position × (word position ≡ 0)

-- ---- a law

-- there is one answer
abbrev pub HasOneAnswer : Type 0
HasOneAnswer = (word : ℕ → ℕ) (same : ℕ → Bool) (n from : ℕ) (one other : Found) → from < n
    → Answers word (λ w. same w ≡ true) (λ w. same w ≡ false) n from one → Answers word (λ w. same w ≡ true) (λ w. same w ≡ false) n from other → one ≡ other
