-- What the numbers and the rows of a legal report are bounded by, and that its text is read again.
use Rattle.std.specs.Prelude.{◌≡◌, ℕ, ◌<◌, ◌^◌, List, [], ◌∷◌, ◌++◌, length, Bool, false, not, cond, codes}
use Rattle.lst_layout.specs.Limits.{IsValid}
use Rattle.lst_layout.specs.declared.limits.Limits.{Limits}
use Rattle.lst_model.specs.declared.lines.Line.{Line}
use Rattle.lst_replies.specs.Legal.{IsLegalReport}
use Rattle.lst_replies.specs.ReportTexts.{ReportFits, report_text}
use Rattle.lst_replies.specs.declared.reports.Report.{Report}
use Rattle.lst_script.specs.Scripts.{IsScript}
use Rattle.lst_script.specs.Texts.{is_newline}
use Rattle.lst_report.specs.declared.claims.Claim.{Claim}
use Rattle.lst_report.specs.Claims.{IsClaim}

-- the report is legal for a script that fits its limits and has fewer than 2^32 lines
pub record IsLegalFor (limits : Limits) (text : List ℕ) (report : Report) : Type 0 where
  pub script : List Line
  pub is_script : IsScript limits text script
  pub few : length script < 2 ^ 32
  pub legal : IsLegalReport limits script report

-- such a report has rows as wide as the table, and its numbers fit their words
abbrev pub LegalReportFits : Type 0
LegalReportFits = (limits : Limits) (text : List ℕ) (report : Report) → IsValid limits → IsLegalFor limits text report → ReportFits limits.columns report

-- ---- behind a script

-- the last line has no newline, which is 10
abbrev pub lacks_newline : List ℕ → Bool
lacks_newline [] = false
lacks_newline (byte ∷ []) = not (is_newline byte)
lacks_newline (byte ∷ next ∷ text) = lacks_newline (next ∷ text)

-- a text, with a newline behind its last line
abbrev pub ended : List ℕ → List ℕ
ended text = cond (lacks_newline text) (text ++ 10 ∷ []) text

-- a script's text, the line `report`, and the text of a report
abbrev pub claim_text : List ℕ → List ℕ → List ℕ
claim_text script report = ended script ++ (codes "report" ++ 10 ∷ report)

-- a text with a report's text behind it is this script with this report
abbrev pub LegalReportIsClaimed : Type 0
LegalReportIsClaimed = (limits : Limits) (text : List ℕ) (report : Report) → IsValid limits → (legal : IsLegalFor limits text report)
    → IsClaim limits (claim_text text (report_text report)) (record { script = legal.script; report = report })

-- a text is one claim at most
abbrev pub IsOneClaim : Limits → List ℕ → Type 0
IsOneClaim limits text = (claim other : Claim) → 0 < limits.columns → IsClaim limits text claim → IsClaim limits text other → claim ≡ other
