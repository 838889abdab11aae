-- What `work` writes, behind its script, and what `check` says of it.
use Rattle.std.specs.Prelude.{◌≡◌, ℕ, ◌≤◌, List, length, codes}
use Rattle.lst_layout.specs.Limits.{IsValid}
use Rattle.lst_layout.specs.declared.limits.Limits.{Limits}
use Rattle.lst_legal_runs.specs.declared.levels.Level.TheVariants.{Snapshot}
use Rattle.lst_report.specs.Fits.{claim_text}
use Rattle.lst_command.specs.declared.status.Status.{Status}
use Rattle.lst_command.specs.declared.status.Status.TheVariants.{Done}
use Rattle.lst_command.specs.Owed.{OwesReport, OwesVerdict, most_bytes}
use Rattle.lst_command.specs.Runs.{Left}

-- a check of this text under snapshot isolation owes this verdict: that the report is legal, and no other
pub record IsJudgedLegal (limits : Limits) (text : List ℕ) : Type 0 where
  pub owed : OwesVerdict Snapshot limits text (codes "legal\n") Done
  pub alone : (told : List ℕ) (status : Status) → OwesVerdict Snapshot limits text told status → (told ≡ codes "legal\n") × (status ≡ Done)

-- what sessions at work under snapshot isolation owe for an input, behind that input and the line `report`, is judged legal
abbrev pub WorkIsJudgedLegal : Type 0
WorkIsJudgedLegal = (limits : Limits) (input text : List ℕ) (left : Left) → IsValid limits → length input ≤ most_bytes → OwesReport Snapshot limits input text left → IsJudgedLegal limits (claim_text input text)
