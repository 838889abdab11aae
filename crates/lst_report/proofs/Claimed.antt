-- A script and its report are read on both sides of the word, or there is a fault.
use Rattle.std.proofs.Common.{◌≡◌, ℕ, ◌+◌, ◌<◌, ◌≤◌, Bool, true, false, cond, eqb, List, [], ◌∷◌, length, take, drop, Some, Result, Ok, Err, inl, inr, sym, ap, subst, ◌∙◌, arith}
use Rattle.std.specs.Prelude.{IfSome, IfOk, IfErr}
use Rattle.std.specs.List.{slice_split}
use Rattle.std.proofs.lemmas.Bool.{true≢false}
use Rattle.std.proofs.lemmas.List.Elements.{All-nil, All-cons}
use Rattle.std.proofs.lemmas.List.Splits.{length-slice_split}
use Rattle.std.proofs.lemmas.List.Sums.{count_by-le-length}
use Rattle.std.proofs.lemmas.Option.{none-some}
use Rattle.lst_layout.specs.declared.limits.Limits.{Limits}
use Rattle.lst_model.specs.declared.lines.Line.{Line}
use Rattle.lst_model.specs.declared.lines.Line.TheVariants as lines
use Rattle.lst_replies.specs.Runs.{speaker_of}
use Rattle.lst_replies.specs.ReportTexts.{is_newline, without_empty_end, IsReportText, IsFirstFault}
use Rattle.lst_legal.specs.Judged.{AreSessionsBelow}
use Rattle.lst_script.specs.declared.faults.FaultKind.{FaultKind}
use Rattle.lst_script.specs.declared.faults.FaultKind.TheVariants.{LineTooLong, UnknownWord, BadNumber, BadSession, BadCount, BadRange, BadColumn, NothingToSet, BadVersion, BadName, BadPair, RepeatedColumn, NoReport, BadReport}
use Rattle.lst_script.specs.declared.faults.ScriptFault.{ScriptFault}
use Rattle.lst_script.specs.declared.faults.ScriptFault.TheVariants as faults
use Rattle.lst_script.specs.Texts.{text_lines, line_words}
use Rattle.lst_script.specs.Columns.{Columns, count_of}
use Rattle.lst_script.specs.Grammar.{IsLine}
use Rattle.lst_script.specs.Scripts.{AreScript, IsScript, first_faulty, Explains as ExplainsScript, NamesFaultOfLine, IsFaultOfLine}
use Rattle.lst_script.proofs.Versions.{script_faultless, each_line}
use Rattle.lst_report.specs.declared.claims.Claim.{Claim}
use Rattle.lst_report.specs.declared.claims.Mark.{Mark}
use Rattle.lst_report.specs.Claims.{script_lines, IsMarkAt, IsUnmarked, IsClaim, IsFaultAt, Explains, IsRead}
use Rattle.lst_report.proofs.Marking.{all_unmarked}

-- ---- numbers of lines

few_parts : (parts : List (List ℕ)) → length (without_empty_end parts) ≤ length parts
few_parts [] = omega arith
few_parts (part ∷ []) = one (eqb (length part) 0)
  where
    one : (b : Bool) → length (cond b [] (part ∷ [])) ≤ length (part ∷ [])
    one true = omega arith
    one false = omega arith
few_parts (part ∷ next ∷ parts) = omega (arith, few_parts (next ∷ parts))

-- the first fault of a report is not far behind its bytes
pub fault_few : (columns : ℕ) (text : List ℕ) (line : ℕ) → IsFirstFault columns text line → line ≤ length text + 2
fault_few columns text line fault =
    omega (arith, fault.within, few_parts (slice_split is_newline text), length-slice_split is_newline text, count_by-le-length is_newline text)

-- ---- the parts of a text

module _ (limits : Limits) (text : List ℕ) where
  -- a fault of the script's lines is one of the whole text
  script_fault : (line : ℕ) (kind : FaultKind) → IsFaultOfLine kind → first_faulty limits 1 (script_lines text) ≡ Some (line, kind) → IsFaultAt limits text line kind
  script_fault line LineTooLong own is = is
  script_fault line UnknownWord own is = is
  script_fault line BadNumber own is = is
  script_fault line BadSession own is = is
  script_fault line BadCount own is = is
  script_fault line BadRange own is = is
  script_fault line BadColumn own is = is
  script_fault line NothingToSet own is = is
  script_fault line BadVersion own is = is
  script_fault line BadName own is = is
  script_fault line BadPair own is = is
  script_fault line RepeatedColumn own is = is
  script_fault line NoReport own is = absurd own
  script_fault line BadReport own is = absurd own

  -- the fault that reading the script's part answers
  pub part_fault : (part : List ℕ) (fault : ScriptFault) → text_lines part ≡ script_lines text → ExplainsScript limits part fault → NamesFaultOfLine fault → Explains limits text fault
  part_fault part (faults.Bad line kind) same is own = script_fault line kind own (ap (λ ls. first_faulty limits 1 ls) (sym same) ∙ is)
  part_fault part faults.OutOfMemory same is own = tt

  pub part_script : (part : List ℕ) (script : List Line) → text_lines part ≡ script_lines text → IsScript limits part script → AreScript limits (script_lines text) script
  part_script part script same is = subst (λ (ls : List (List ℕ)). AreScript limits ls script) same is

  -- where no line is the word, the whole text is the script's part
  pub whole_part : (count : ℕ) → IsUnmarked text count → text_lines text ≡ script_lines text
  whole_part count none = sym (all_unmarked (text_lines text) none.unmarked)

  pub no_report : (count : ℕ) (script : List Line) → IsUnmarked text count → IsScript limits text script → IsFaultAt limits text (count + 1) NoReport
  no_report count script none is = record {
    script = record { script = script; are = part_script text script (whole_part count none) is };
    unmarked = none.unmarked;
    place = ap (λ n. n + 1) none.counted;
  }

  pub bad_report : (mark : Mark) (script : List Line) (within : ℕ) → IsMarkAt text mark → IsScript limits (take mark.front text) script → IsFirstFault limits.columns (drop mark.behind text) within → IsFaultAt limits text (mark.lines + 1 + within) BadReport
  bad_report mark script within at is fault = record {
    script = record { script = script; are = part_script (take mark.front text) script at.script is };
    marked = at.marked;
    within = within;
    fault = subst (λ (part : List ℕ). IsFirstFault limits.columns part within) at.report fault;
    place = ap (λ n. n + 1 + within) at.counted;
  }

  pub claim_is : (mark : Mark) (claim : Claim) → IsMarkAt text mark → IsScript limits (take mark.front text) claim.script → IsReportText limits.columns (drop mark.behind text) claim.report → IsClaim limits text claim
  claim_is mark claim at is report = record {
    script = part_script (take mark.front text) claim.script at.script is;
    marked = at.marked;
    report = subst (λ (part : List ℕ). IsReportText limits.columns part claim.report) at.report report;
  }

  -- ---- a claim has no fault

  claim_faultless : (line : ℕ) (kind : FaultKind) (claim : Claim) → IsClaim limits text claim → first_faulty limits 1 (script_lines text) ≡ Some (line, kind) → ⊥
  claim_faultless line kind claim is fault = none-some (line, kind) (sym (script_faultless limits 1 (script_lines text) is.script.0 claim.script is.script.1) ∙ fault)

  faultless : (line : ℕ) (kind : FaultKind) (claim : Claim) → IsClaim limits text claim → IsFaultAt limits text line kind → ⊥
  faultless line LineTooLong claim is fault = claim_faultless line LineTooLong claim is fault
  faultless line UnknownWord claim is fault = claim_faultless line UnknownWord claim is fault
  faultless line BadNumber claim is fault = claim_faultless line BadNumber claim is fault
  faultless line BadSession claim is fault = claim_faultless line BadSession claim is fault
  faultless line BadCount claim is fault = claim_faultless line BadCount claim is fault
  faultless line BadRange claim is fault = claim_faultless line BadRange claim is fault
  faultless line BadColumn claim is fault = claim_faultless line BadColumn claim is fault
  faultless line NothingToSet claim is fault = claim_faultless line NothingToSet claim is fault
  faultless line BadVersion claim is fault = claim_faultless line BadVersion claim is fault
  faultless line BadName claim is fault = claim_faultless line BadName claim is fault
  faultless line BadPair claim is fault = claim_faultless line BadPair claim is fault
  faultless line RepeatedColumn claim is fault = claim_faultless line RepeatedColumn claim is fault
  faultless line NoReport claim is fault = true≢false (sym is.marked ∙ fault.unmarked)
  faultless line BadReport claim is fault = fault.fault.whole claim.report is.report

  pub read_if_claim : (result : Result Claim ScriptFault) → IfErr result (Explains limits text) → (claim : Claim) → IsClaim limits text claim → IsRead result
  read_if_claim (Ok read) explained claim is = tt
  read_if_claim (Err (faults.Bad line kind)) explained claim is = faultless line kind claim is explained
  read_if_claim (Err faults.OutOfMemory) explained claim is = tt

-- ---- sessions are below the limit

abbrev IsBelow : ℕ → Line → Type 0
IsBelow sessions line = IfSome (speaker_of line) (λ session. session < sessions)

line_below : (limits : Limits) (columns : Columns) (words : List (List ℕ)) (line : Line) → count_of columns ≡ limits.columns → IsLine limits columns words line → IsBelow limits.sessions line
line_below limits columns words lines.Phase many is = tt
line_below limits columns words (lines.Merge range column) many is = tt
line_below limits columns words (lines.Call session call) many is = is.4

pub script_below : (limits : Limits) (texts : List (List ℕ)) (script : List Line) → AreScript limits texts script → AreSessionsBelow limits.sessions script
script_below limits texts script are = each_line limits (IsBelow limits.sessions) (line_below limits) texts script are

pub result_below : (limits : Limits) (text : List ℕ) (result : Result Claim ScriptFault) → IfOk result (IsClaim limits text) → IfOk result (λ claim. AreSessionsBelow limits.sessions claim.script)
result_below limits text (Ok claim) is = script_below limits (script_lines text) claim.script is.script
result_below limits text (Err fault) is = tt
