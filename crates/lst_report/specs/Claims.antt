-- A text that is a script, then the line `report`, then a report that is claimed for the script.
use Rattle.std.specs.Prelude.{◌≡◌, ℕ, zero, suc, ◌+◌, ◌≤◌, List, [], ◌∷◌, Bool, true, false, not, cond, length, take, drop, take_while, codes, bytes_eq, Some, Result, Err}
use Rattle.std.specs.List.{list_any}
use Rattle.lst_layout.specs.declared.limits.Limits.{Limits}
use Rattle.lst_model.specs.declared.lines.Line.{Line}
use Rattle.lst_replies.specs.ReportTexts.{IsReportText, IsFirstFault}
use Rattle.lst_script.specs.declared.faults.FaultKind.{FaultKind}
use Rattle.lst_script.specs.declared.faults.FaultKind.TheVariants.{NoReport, BadReport}
use Rattle.lst_script.specs.declared.faults.ScriptFault.{ScriptFault}
use Rattle.lst_script.specs.declared.faults.ScriptFault.TheVariants as faults
use Rattle.lst_script.specs.Texts.{is_newline, text_lines}
use Rattle.lst_script.specs.Scripts.{AreScript, first_faulty}
use Rattle.lst_report.specs.declared.claims.Claim.{Claim}
use Rattle.lst_report.specs.declared.claims.Mark.{Mark}

-- ---- the parts of a text

-- a line that is the word `report`, and nothing else
abbrev pub is_mark : List ℕ → Bool
is_mark line = bytes_eq line (codes "report")

-- some line of the text is that word
abbrev pub has_mark : List ℕ → Bool
has_mark text = list_any is_mark (text_lines text)

-- the lines of the script: those before the first such line, or all where there is none
abbrev pub script_lines : List ℕ → List (List ℕ)
script_lines text = take_while (λ line. not (is_mark line)) (text_lines text)

-- what stands behind the first newline of a text; nothing where there is none
abbrev pub behind_line : List ℕ → List ℕ
behind_line [] = []
behind_line (byte ∷ text) = cond (is_newline byte) text (behind_line text)

-- what stands behind the first lines of a text
abbrev pub behind_lines : ℕ → List ℕ → List ℕ
behind_lines zero text = text
behind_lines (suc count) text = behind_lines count (behind_line text)

-- the text of the report: what stands behind the word
abbrev pub report_part : List ℕ → List ℕ
report_part text = behind_lines (length (script_lines text) + 1) text

-- where the word stands: the lines before it are the script's, and what is behind it is the report
pub record IsMarkAt (text : List ℕ) (mark : Mark) : Type 0 where
  pub marked : has_mark text ≡ true
  pub script : text_lines (take mark.front text) ≡ script_lines text
  pub report : drop mark.behind text ≡ report_part text
  pub counted : mark.lines ≡ length (script_lines text)
  pub within : mark.behind ≤ length text
  pub order : mark.front ≤ mark.behind
  pub few : mark.lines ≤ mark.front

-- no line is the word, and there are so many
pub record IsUnmarked (text : List ℕ) (count : ℕ) : Type 0 where
  pub unmarked : has_mark text ≡ false
  pub counted : count ≡ length (text_lines text)

-- ---- what is read

-- a text is this script, the word, and this report, for a table with the columns of the limits
pub record IsClaim (limits : Limits) (text : List ℕ) (claim : Claim) : Type 0 where
  pub script : AreScript limits (script_lines text) claim.script
  pub marked : has_mark text ≡ true
  pub report : IsReportText limits.columns (report_part text) claim.report

-- ---- why a text is not read

-- the script has no faulty line
pub record IsInOrder (limits : Limits) (text : List ℕ) : Type 0 where
  pub script : List Line
  pub are : AreScript limits (script_lines text) script

-- the script is in order, and no line is the word: the fault is behind the last line
pub record LacksReport (limits : Limits) (text : List ℕ) (line : ℕ) : Type 0 where
  pub script : IsInOrder limits text
  pub unmarked : has_mark text ≡ false
  pub place : line ≡ length (text_lines text) + 1

-- the script is in order, and a line of the report is the first that can't stand in its place
pub record HasBadReport (limits : Limits) (text : List ℕ) (line : ℕ) : Type 0 where
  pub script : IsInOrder limits text
  pub marked : has_mark text ≡ true
  pub within : ℕ
  pub fault : IsFirstFault limits.columns (report_part text) within
  pub place : line ≡ length (script_lines text) + 1 + within

-- the script's first faulty line, counted over all lines; and where it has none, that there is no report, or its first faulty line
abbrev pub IsFaultAt : Limits → List ℕ → ℕ → FaultKind → Type 0
IsFaultAt limits text line NoReport = LacksReport limits text line
IsFaultAt limits text line BadReport = HasBadReport limits text line
IsFaultAt limits text line kind = first_faulty limits 1 (script_lines text) ≡ Some (line, kind)

abbrev pub Explains : Limits → List ℕ → ScriptFault → Type 0
Explains limits text (faults.Bad line kind) = IsFaultAt limits text line kind
Explains limits text faults.OutOfMemory = Unit {0}

-- a claim is in the way of every fault but want of memory
abbrev pub IsRead : Result Claim ScriptFault → Type 0
IsRead (Err (faults.Bad line kind)) = ⊥
IsRead answer = Unit {0}
