-- The text of a report behind a script's text and the word is a claim.
use Rattle.std.proofs.Common.{◌≡◌, ℕ, suc, ◌+◌, ◌-◌, ◌<◌, ◌≤◌, Bool, true, false, not, ◌||◌, cond, List, [], ◌∷◌, ◌++◌, length, take, drop, inl, inr, codes, Some, Ok, refl, sym, ap, subst, ◌∙◌, append_assoc, arith}
use Rattle.std.specs.Prelude.{◌==◌}
use Rattle.std.specs.List.{list_any, slice_split, onto_first}
use Rattle.std.specs.Str.Lines.{strip_carriage_return}
use Rattle.std.proofs.lemmas.Bool.{true≢false, eqb-true, ne_eqb}
use Rattle.std.proofs.lemmas.List.{length-append, length-map}
use Rattle.std.proofs.lemmas.List.Elements.{All-nil, All-cons}
use Rattle.std.proofs.lemmas.List.Splits.{length-slice_split, slice_split-cons_yes, slice_split-cons_no}
use Rattle.std.proofs.lemmas.List.Sums.{count_by-le-length}
use Rattle.std.proofs.lemmas.Option.{none-some}
use Rattle.std.proofs.lemmas.Slice.Eq.{bytes_eq-Decides}
use Rattle.std.proofs.Math.Seq.{drop-append_seam, take-append_seam}
use Rattle.lst_layout.specs.declared.limits.Limits.{Limits}
use Rattle.lst_model.specs.declared.lines.Line.{Line}
use Rattle.lst_model.specs.declared.lines.Line.TheVariants as lines
use Rattle.lst_replies.specs.declared.reports.Report.{Report}
use Rattle.lst_replies.specs.ReportTexts.{ReportFits, IsReportText, report_text}
use Rattle.lst_replies.specs.ReportTexts as reports
use Rattle.lst_replies.proofs.Faults.{only}
use Rattle.lst_replies.proofs.Joined.{position-append}
use Rattle.lst_replies.proofs.Printed.{printed}
use Rattle.lst_script.specs.Texts.{is_newline, without_empty_end, text_lines, line_words}
use Rattle.lst_script.specs.Laws.{text_of}
use Rattle.lst_script.specs.Faults.{is_skipped}
use Rattle.lst_script.specs.Headers.{opens_version}
use Rattle.lst_script.specs.Columns.{Columns, numbered, named}
use Rattle.lst_script.specs.Grammar.{IsLine}
use Rattle.lst_script.specs.Table.{phase, first_forms, form_named}
use Rattle.lst_script.specs.Numbers.{number_of}
use Rattle.lst_script.specs.Scripts.{AreLines, AreInVersion, AreScript, IsScript}
use Rattle.lst_script.proofs.Parts.{front_stays}
use Rattle.lst_script.proofs.Scanning.{first_cases}
use Rattle.lst_script.proofs.Versions.{version_cases, one_script}
use Rattle.lst_report.specs.declared.claims.Mark.{Mark}
use Rattle.lst_report.specs.Claims.{is_mark, script_lines, report_part, IsMarkAt, IsClaim}
use Rattle.lst_report.specs.Fits.{lacks_newline, ended, claim_text, LegalReportIsClaimed, IsOneClaim}
use Rattle.lst_report.proofs.Marking.{IsPassed, AreFree, lines_whole, mark_of, mark_found}
use Rattle.lst_report.proofs.Claimed.{claim_is}
use Rattle.lst_report.proofs.Numbers.{script_holds}
use Rattle.lst_report.proofs.Fitting.{report_fits}

-- ---- a text with a newline behind its last line

abbrev parts_of : List ℕ → List (List ℕ)
parts_of text = slice_split is_newline text

some_part : (text : List ℕ) → 0 < length (parts_of text)
some_part text = omega (arith, length-slice_split is_newline text)

-- more than one empty part
abbrev HasBytes : List (List ℕ) → Type 0
HasBytes [] = ⊥
HasBytes ([] ∷ []) = ⊥
HasBytes ((byte ∷ part) ∷ []) = Unit {0}
HasBytes (part ∷ next ∷ parts) = Unit {0}

onto_has : (byte : ℕ) (parts : List (List ℕ)) → HasBytes (onto_first byte parts)
onto_has byte [] = tt
onto_has byte (part ∷ []) = tt
onto_has byte (part ∷ next ∷ parts) = tt

parted_has : (parts : List (List ℕ)) → 0 < length parts → HasBytes ([] ∷ parts)
parted_has [] some = absurd (omega (arith, some))
parted_has (part ∷ parts) some = tt

parts_have : (byte : ℕ) (text : List ℕ) → HasBytes (parts_of (byte ∷ text))
parts_have byte text = by (is_newline byte)
  where
    by : (b : Bool) → HasBytes (cond b ([] ∷ parts_of text) (onto_first byte (parts_of text)))
    by true = parted_has (parts_of text) (some_part text)
    by false = onto_has byte (parts_of text)

above : (n : ℕ) → (suc n == 0) ≡ false
above n = ne_eqb (suc n) 0 (λ e. absurd (omega (arith, e)))

-- one more byte in front of the first part
onto_text : (byte : ℕ) (parts : List (List ℕ)) → HasBytes parts → text_of (without_empty_end (onto_first byte parts)) ≡ byte ∷ text_of (without_empty_end parts)
onto_text byte [] has = absurd has
onto_text byte ([] ∷ []) has = absurd has
onto_text byte ((first ∷ part) ∷ []) has =
    ap (λ b. text_of (cond b [] ((byte ∷ first ∷ part) ∷ []))) (above (suc (length part)))
    ∙ ap (λ b. byte ∷ text_of (cond b [] ((first ∷ part) ∷ []))) (sym (above (length part)))
onto_text byte (part ∷ next ∷ parts) has = refl

ended_more : (byte next : ℕ) (text : List ℕ) → ended (byte ∷ next ∷ text) ≡ byte ∷ ended (next ∷ text)
ended_more byte next text = by (lacks_newline (next ∷ text))
  where
    by : (b : Bool) → cond b (byte ∷ next ∷ text ++ 10 ∷ []) (byte ∷ next ∷ text) ≡ byte ∷ cond b (next ∷ text ++ 10 ∷ []) (next ∷ text)
    by true = refl
    by false = refl

ended_newline : (byte : ℕ) (text : List ℕ) → is_newline byte ≡ true → ended (byte ∷ text) ≡ byte ∷ ended text
ended_newline byte [] is = ap (λ b. cond (not b) (byte ∷ 10 ∷ []) (byte ∷ [])) is
ended_newline byte (next ∷ text) is = ended_more byte next text

lines_ended : (text : List ℕ) → text_of (without_empty_end (parts_of text)) ≡ ended text
lines_ended [] = refl
lines_ended (byte ∷ text) = by (is_newline byte) refl (lines_ended text)
  where
    last : (text : List ℕ) → is_newline byte ≡ false → text_of (without_empty_end (parts_of text)) ≡ ended text → text_of (without_empty_end (onto_first byte (parts_of text))) ≡ ended (byte ∷ text)
    last [] other later = sym (ap (λ b. cond (not b) (byte ∷ 10 ∷ []) (byte ∷ [])) other)
    last (next ∷ rest) other later = onto_text byte (parts_of (next ∷ rest)) (parts_have next rest) ∙ ap (λ t. byte ∷ t) later ∙ sym (ended_more byte next rest)

    by : (b : Bool) → is_newline byte ≡ b → text_of (without_empty_end (parts_of text)) ≡ ended text → text_of (without_empty_end (parts_of (byte ∷ text))) ≡ ended (byte ∷ text)
    by true is later =
        let newline : byte ≡ 10 = eqb-true byte 10 is in
        ap (λ (ps : List (List ℕ)). text_of (without_empty_end ps)) (slice_split-cons_yes is_newline byte text is)
        ∙ ap (λ (ps : List (List ℕ)). text_of ps) (front_stays [] (parts_of text) (some_part text))
        ∙ ap (λ t. 10 ∷ t) later ∙ ap (λ b. b ∷ ended text) (sym newline) ∙ sym (ended_newline byte text is)
    by false other later =
        ap (λ (ps : List (List ℕ)). text_of (without_empty_end ps)) (slice_split-cons_no is_newline byte text other) ∙ last text other later

-- ---- no part has a newline

onto_free : (byte : ℕ) (parts : List (List ℕ)) → is_newline byte ≡ false → AreFree parts → AreFree (onto_first byte parts)
onto_free byte [] other free = (All-cons (λ c. is_newline c ≡ false) byte [] other (All-nil (λ c. is_newline c ≡ false)), tt)
onto_free byte (part ∷ parts) other free = (All-cons (λ c. is_newline c ≡ false) byte part other free.0, free.1)

parts_free : (text : List ℕ) → AreFree (parts_of text)
parts_free [] = (All-nil (λ c. is_newline c ≡ false), tt)
parts_free (byte ∷ text) = by (is_newline byte) refl (parts_free text)
  where
    by : (b : Bool) → is_newline byte ≡ b → AreFree (parts_of text) → AreFree (cond b ([] ∷ parts_of text) (onto_first byte (parts_of text)))
    by true is later = (All-nil (λ c. is_newline c ≡ false), later)
    by false other later = onto_free byte (parts_of text) other later

kept_free : (parts : List (List ℕ)) → AreFree parts → AreFree (without_empty_end parts)
kept_free [] free = tt
kept_free (part ∷ []) free = by (length part == 0)
  where
    by : (b : Bool) → AreFree (cond b [] (part ∷ []))
    by true = tt
    by false = free
kept_free (part ∷ next ∷ parts) free = (free.0, kept_free (next ∷ parts) free.1)

-- ---- no line of a script is the word

abbrev word : List ℕ
word = codes "report"

no_line : (limits : Limits) (columns : Columns) (line : Line) → IsLine limits columns (word ∷ []) line → ⊥
no_line limits columns lines.Phase is = apart is.0 is.1 is.2
  where
    apart : (name : List ℕ) → word ∷ [] ≡ name ∷ [] → form_named first_forms name ≡ Some phase → ⊥
    apart name same found =
        let one : word ≡ name = cc in
        none-some phase (subst (λ (n : List ℕ). form_named first_forms n ≡ Some phase) (sym one) found)
no_line limits columns (lines.Merge range column) is = apart is.0 is.1 is.2 is.3
  where
    apart : (name first second : List ℕ) → word ∷ [] ≡ name ∷ first ∷ second ∷ [] → ⊥
    apart name first second same = absurd cc
no_line limits columns (lines.Call session call) is = apart is.0 is.1 is.2 is.3
  where
    apart : (first : List ℕ) (rest : List (List ℕ)) → word ∷ [] ≡ first ∷ rest → number_of first ≡ Some session → ⊥
    apart first rest same found =
        let one : word ≡ first = cc in
        none-some session (subst (λ (n : List ℕ). number_of n ≡ Some session) (sym one) found)

module _ (limits : Limits) where
  marked_none : (P : List ℕ → Type 0) (line : List ℕ) → (P word → ⊥) → P line → is_mark line ≡ false
  marked_none P line never holds = by (is_mark line) refl
    where
      by : (b : Bool) → is_mark line ≡ b → b ≡ false
      by true is = absurd (never (subst P ((bytes_eq-Decides line word).0 is) holds))
      by false is = refl

  both_none : (line : List ℕ) (rest : List (List ℕ)) → is_mark line ≡ false → list_any is_mark rest ≡ false → list_any is_mark (line ∷ rest) ≡ false
  both_none line rest one others = ap (λ b. b || list_any is_mark rest) one ∙ others

  lines_unmarked : (columns : Columns) (texts : List (List ℕ)) (script : List Line) → AreLines limits columns texts script → list_any is_mark texts ≡ false
  lines_unmarked columns [] script are = refl
  lines_unmarked columns (text ∷ texts) script are =
      elim (first_cases limits columns text texts script are) [
        | inl skipped ↦ both_none text texts (marked_none (λ t. is_skipped (line_words t) ≡ true) text (λ e. true≢false (sym e)) skipped.0) (lines_unmarked columns texts script skipped.1)
        | inr read ↦ both_none text texts (marked_none (λ t. IsLine limits columns (line_words t) read.1.first) text (no_line limits columns read.1.first) read.1.is_line) (lines_unmarked columns texts read.1.rest read.1.is_rest)
      ]

  script_unmarked : (texts names : List (List ℕ)) (script : List Line) → AreInVersion limits texts names script → list_any is_mark texts ≡ false
  script_unmarked [] names script are = refl
  script_unmarked (text ∷ texts) names script are =
      elim (version_cases limits text texts names script are) [
        | inl skipped ↦ both_none text texts (marked_none (λ t. is_skipped (line_words t) ≡ true) text (λ e. true≢false (sym e)) skipped.0) (script_unmarked texts names script skipped.1)
        | inr read ↦ elim read.1 [
          | inl heads ↦ both_none text texts (marked_none (λ t. opens_version (line_words t) ≡ true) text (λ e. true≢false (sym e)) heads.0) (lines_unmarked (named names) texts script heads.1.are)
          | inr plain ↦ lines_unmarked (numbered limits.columns) (text ∷ texts) script plain.1.are
        ]
      ]

-- ---- the claim

module _ (limits : Limits) (text : List ℕ) (script : List Line) (report : Report) (is : IsScript limits text script) (fits : ReportFits limits.columns report) where
  abbrev whole : List ℕ
  whole = claim_text text (report_text report)

  abbrev behind : List ℕ
  behind = word ++ 10 ∷ report_text report

  abbrev own_lines : List (List ℕ)
  own_lines = without_empty_end (parts_of text)

  passed : IsPassed whole behind (length own_lines)
  passed = record {
    lines = own_lines;
    parts = ap (λ t. t ++ behind) (sym (lines_ended text));
    free = kept_free (parts_of text) (parts_free text);
    unmarked = script_unmarked limits (text_lines text) is.0 script is.1;
    counted = refl;
  }

  abbrev mark : Mark
  mark = mark_of (length own_lines) (length whole - length behind) (length whole - length behind + length word + 1)

  found : IsMarkAt whole mark
  found =
      mark_found whole behind (length word) (length own_lines) passed (position-append is_newline word 10 (report_text report) refl refl)
      (ap (λ line. is_mark (strip_carriage_return line)) (take-append_seam word (10 ∷ report_text report)))

  sizes : length whole ≡ length (ended text) + length behind
  sizes = length-append (ended text) behind

  front_script : IsScript limits (take (length whole - length behind) whole) script
  front_script =
      let front : take (length whole - length behind) whole ≡ ended text = ap (λ n. take n whole) (omega (arith, sizes)) ∙ take-append_seam (ended text) behind in
      let same : text_lines (ended text) ≡ text_lines text = ap (λ t. text_lines t) (sym (lines_ended text)) ∙ lines_whole own_lines (kept_free (parts_of text) (parts_free text)) in
      subst (λ (ls : List (List ℕ)). AreScript limits ls script) (sym (ap (λ t. text_lines t) front ∙ same)) is

  behind_report : IsReportText limits.columns (drop (length whole - length behind + length word + 1) whole) report
  behind_report =
      let front = ended text ++ (word ++ 10 ∷ []) in
      let parts : whole ≡ front ++ report_text report = sym (append_assoc (ended text) (word ++ 10 ∷ []) (report_text report)) in
      let size : length whole - length behind + length word + 1 ≡ length front = omega (arith, sizes, length-append (ended text) (word ++ 10 ∷ []), length-append word (10 ∷ [])) in
      let rest : drop (length whole - length behind + length word + 1) whole ≡ report_text report = ap (λ n. drop n whole) size ∙ ap (λ t. drop (length front) t) parts ∙ drop-append_seam front (report_text report) in
      subst (λ (t : List ℕ). IsReportText limits.columns t report) (sym rest) (printed limits.columns report fits)

  claimed : IsClaim limits whole (record { script = script; report = report })
  claimed = claim_is limits whole mark (record { script = script; report = report }) found front_script behind_report

-- a legal report fits, and so it is read behind its script
pub legal_claimed : LegalReportIsClaimed
legal_claimed limits text report valid is =
    claimed limits text is.script report is.is_script (report_fits limits is.script report is.legal.0 (script_holds limits valid (text_lines text) is.script is.is_script) is.few is.legal.1)

-- ---- a text is one claim at most

pub one_claim : (limits : Limits) (text : List ℕ) → IsOneClaim limits text
one_claim limits text claim other wide is also =
    let scripts = one_script limits (script_lines text) claim.script other.script is.script also.script in
    let lines = report_part text in
    let found : Ok claim.report ≡ Ok other.report = sym (only limits.columns wide (reports.text_lines lines) claim.report is.report.fits is.report.lines) ∙ only limits.columns wide (reports.text_lines lines) other.report also.report.fits also.report.lines in
    let told : claim.report ≡ other.report = cc found in
    λ i. record { script = scripts i; report = told i }

-- ---- no more lines than bytes

lines_few : (limits : Limits) (columns : Columns) (texts : List (List ℕ)) (script : List Line) → AreLines limits columns texts script → length script ≤ length texts
lines_few limits columns [] script are = omega (arith, ap (λ (ls : List Line). length ls) are)
lines_few limits columns (text ∷ texts) script are =
    elim (first_cases limits columns text texts script are) [
      | inl skipped ↦ omega (arith, lines_few limits columns texts script skipped.1)
      | inr read ↦ omega (arith, ap (λ (ls : List Line). length ls) read.1.parts, lines_few limits columns texts read.1.rest read.1.is_rest)
    ]

version_few : (limits : Limits) (texts names : List (List ℕ)) (script : List Line) → AreInVersion limits texts names script → length script ≤ length texts
version_few limits [] names script are = lines_few limits (numbered limits.columns) [] script are.are
version_few limits (text ∷ texts) names script are =
    elim (version_cases limits text texts names script are) [
      | inl skipped ↦ omega (arith, version_few limits texts names script skipped.1)
      | inr read ↦ elim read.1 [
        | inl heads ↦ omega (arith, lines_few limits (named names) texts script heads.1.are)
        | inr plain ↦ lines_few limits (numbered limits.columns) (text ∷ texts) script plain.1.are
      ]
    ]

kept_few : (parts : List (List ℕ)) → length (without_empty_end parts) ≤ length parts
kept_few [] = omega arith
kept_few (part ∷ []) = by (length part == 0)
  where
    by : (b : Bool) → length (cond b [] (part ∷ [])) ≤ length (part ∷ [])
    by true = omega arith
    by false = omega arith
kept_few (part ∷ next ∷ parts) = omega (arith, kept_few (next ∷ parts))

pub script_few : (limits : Limits) (text : List ℕ) (script : List Line) → IsScript limits text script → length script ≤ length text + 1
script_few limits text script is =
    omega (arith, version_few limits (text_lines text) is.0 script is.1, length-map (without_empty_end (parts_of text)) strip_carriage_return, kept_few (parts_of text), length-slice_split is_newline text, count_by-le-length is_newline text)
