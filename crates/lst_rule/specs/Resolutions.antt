-- How a version stands to a session: by which loads it was found, and what the session knows of it since.
use Rattle.std.specs.Prelude.{◌≡◌, ℕ, ◌+◌, ◌*◌, ◌^◌, ◌<◌}
use Rattle.lst_layout.specs.declared.place.Place.TheVariants.{CellWord, StateWord}
use Rattle.lst_layout.specs.Addresses.{IsWithin}
use Rattle.lst_core_state.specs.State.{name_of}
use Rattle.lst_rule.specs.declared.view.View.{View}
use Rattle.lst_rule.specs.Rule.{knows}
use Rattle.lst_rule.specs.Stores.{Looked}
use Rattle.lst_rule.specs.Statuses.{Answers, Asked}
use Rattle.lst_rule.specs.declared.status.Status.{Status}
use Rattle.lst_rule.specs.declared.status.Status.TheVariants as status
use Rattle.lst_rule.specs.declared.resolutions.Resolution.{Resolution}
use Rattle.lst_rule.specs.declared.resolutions.Resolution.TheVariants.{Empty, Stamped, Own, Closed, Committed, Unfinished}

-- the load from v to b found that the start word of the tail record names the transaction, number n of the session j
pub record NamedBy (v b : View) (s tail j n : ℕ) : Type 0 where
  pub looked : Looked v b s (CellWord tail 0) (1 + 2 * name_of j n)
  pub place : IsWithin b.limits (StateWord j n)

-- which is the last one that the session s began
abbrev pub IsLast : View → ℕ → ℕ → ℕ → Type 0
IsLast v s j n = (j ≡ s) × (n ≡ (knows v s).number)

-- which isn't the last one, and of which it then asked for the status
pub record AsksOther (v w : View) (s tail j n : ℕ) (status : Status) : Type 0 where
  pub between : View
  pub named : NamedBy v between s tail j n
  pub other : IsLast between s j n → ⊥
  pub asked : Asked between w s
  pub answers : Answers between w s j n status

-- what the status says, as a resolution
abbrev pub AnswersAs : View → View → ℕ → ℕ → ℕ → Resolution → Type 0
AnswersAs v w s j n Empty = ⊥
AnswersAs v w s j n (Stamped time) = ⊥
AnswersAs v w s j n Own = ⊥
AnswersAs v w s j n Closed = Answers v w s j n status.Closed
AnswersAs v w s j n (Committed time) = Answers v w s j n (status.Committed time)
AnswersAs v w s j n (Unfinished session number) = (session ≡ j) × (number ≡ n) × Answers v w s j n (status.Unfinished j n)

-- between v and w the session s resolved the version so
abbrev pub Resolved : View → View → ℕ → ℕ → Resolution → Type 0
Resolved v w s tail Empty = Looked v w s (CellWord tail 0) 0
Resolved v w s tail (Stamped time) = (0 < time) × (time < 2 ^ 63) × Looked v w s (CellWord tail 0) (2 * time)
Resolved v w s tail Own = (j : ℕ) × (n : ℕ) × NamedBy v w s tail j n × IsLast w s j n
Resolved v w s tail Closed = (j : ℕ) × (n : ℕ) × AsksOther v w s tail j n status.Closed
Resolved v w s tail (Committed time) = (j : ℕ) × (n : ℕ) × AsksOther v w s tail j n (status.Committed time)
Resolved v w s tail (Unfinished j n) = AsksOther v w s tail j n (status.Unfinished j n)
