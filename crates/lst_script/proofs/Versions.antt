-- A whole script in either version: its lines, its first faulty line, and that it is one script alone.
use Rattle.std.proofs.Common.{◌≡◌, ℕ, suc, ◌+◌, ◌<◌, ◌≤◌, Bool, true, false, cond, eqb, List, [], ◌∷◌, ◌++◌, length, drop, Some, None, Result, Ok, Err, inl, inr, codes, refl, sym, ap, subst, ◌∙◌, arith}
use Rattle.std.specs.Prelude.{IsErrAnd, IfOk, IfErr, All}
use Rattle.std.specs.List.{AllByRecursion}
use Rattle.std.proofs.lemmas.Bool.{false≢true, le-ltb, lt-ltb, eq-eqb, and_parts, eqb-true}
use Rattle.std.proofs.lemmas.List.Elements.{All-nil, All-cons}
use Rattle.std.proofs.lemmas.Option.{none-some, some_pair_parts}
use Rattle.std.proofs.lemmas.Slice.Eq.{bytes_eq-Decides}
use Rattle.lst_layout.specs.declared.limits.Limits.{Limits}
use Rattle.lst_model.specs.declared.lines.Line.{Line}
use Rattle.lst_script.specs.declared.scripts.Named.{Named}
use Rattle.lst_script.specs.declared.faults.FaultKind.{FaultKind}
use Rattle.lst_script.specs.declared.faults.FaultKind.TheVariants.{LineTooLong}
use Rattle.lst_script.specs.declared.faults.ScriptFault.{ScriptFault}
use Rattle.lst_script.specs.declared.faults.ScriptFault.TheVariants as faults
use Rattle.lst_script.specs.Texts.{text_lines, line_words}
use Rattle.lst_script.specs.Columns.{Columns, numbered, named, count_of}
use Rattle.lst_script.specs.Grammar.{IsLine}
use Rattle.lst_script.specs.Faults.{first_fault, is_skipped}
use Rattle.lst_script.specs.Headers.{opens_version, IsHeader, header_checks, default_names}
use Rattle.lst_script.specs.Scripts.{AreLines, AreInVersion, AreNumbered, AreNamed, AreScript, IsScript, IsNamed, faulty_or, faulty_line, length_fault, header_fault, first_faulty, text_fault, Explains, AnswersUnlessMemory}
use Rattle.lst_script.specs.Reading.{IsPassed, IsStart, ExplainsLines, ReadsHeader}
use Rattle.lst_script.proofs.Scanning.{Cases, cases_at, first_cases, lines_faultless, long_fault}
use Rattle.lst_script.proofs.OneReading.{one_list}

-- ---- lines that are skipped first

pub in_version : (limits : Limits) (before rest names : List (List ℕ)) (script : List Line) → AllByRecursion IsPassed before → AreInVersion limits rest names script → AreInVersion limits (before ++ rest) names script
in_version limits [] rest names script passed are = are
in_version limits (line ∷ before) rest names script passed are = (passed.0.short, rw passed.0.skipped (in_version limits before rest names script passed.1 are))

length_none : (line : List ℕ) → length line ≤ 1024 → length_fault line ≡ None
length_none line short = rw (le-ltb 1024 (length line) short) refl

pub faulty_behind : (limits : Limits) (n : ℕ) (before rest : List (List ℕ)) → AllByRecursion IsPassed before → first_faulty limits n (before ++ rest) ≡ first_faulty limits (n + length before) rest
faulty_behind limits n [] rest passed = ap (λ k. first_faulty limits k rest) (omega arith)
faulty_behind limits n (line ∷ before) rest passed =
    let later : first_faulty limits (n + 1) (before ++ rest) ≡ first_faulty limits (n + suc (length before)) rest = faulty_behind limits (n + 1) before rest passed.1 ∙ ap (λ k. first_faulty limits k rest) (omega arith) in
    rw (passed.0.skipped, length_none line passed.0.short) later

-- a line that is too long is faulty, whatever it is
pub long_first : (limits : Limits) (n : ℕ) (line : List ℕ) (lines : List (List ℕ)) → 1024 < length line → first_faulty limits n (line ∷ lines) ≡ Some (n, LineTooLong)
long_first limits n line lines long = by (is_skipped (line_words line)) (opens_version (line_words line))
  where
    is_long : length_fault line ≡ Some LineTooLong
    is_long = rw (lt-ltb 1024 (length line) long) refl

    head_long : header_fault limits.columns line ≡ Some LineTooLong
    head_long = rw (lt-ltb 1024 (length line) long) refl

    by : (skipped opens : Bool) → cond skipped (faulty_or n (length_fault line) (first_faulty limits (n + 1) lines)) (cond opens (faulty_or n (header_fault limits.columns line) (faulty_line limits (named (drop 2 (line_words line))) (n + 1) lines)) (faulty_line limits (numbered limits.columns) n (line ∷ lines))) ≡ Some (n, LineTooLong)
    by true opens = ap (λ f. faulty_or n f (first_faulty limits (n + 1) lines)) is_long
    by false true = ap (λ f. faulty_or n f (faulty_line limits (named (drop 2 (line_words line))) (n + 1) lines)) head_long
    by false false = ap (λ f. faulty_or n f (faulty_line limits (numbered limits.columns) (n + 1) lines)) (long_fault limits (numbered limits.columns) line long)

-- a header fails none of its checks
pub header_passes : (count : ℕ) (words names : List (List ℕ)) → IsHeader count words names → first_fault (header_checks count words) ≡ None
header_passes count words names heads =
    let many : length names ≡ count = eqb-true (length names) count (and_parts _ _ heads.names_are).0 in
    let size : eqb (length (codes "version" ∷ codes "2" ∷ names)) (count + 2) ≡ true = eq-eqb (length (codes "version" ∷ codes "2" ∷ names)) (count + 2) (omega (arith, many)) in
    rw (heads.words_are, size, heads.names_are) refl

-- words that open a header begin with its word
pub opened : (words : List (List ℕ)) → opens_version words ≡ true → words ≡ codes "version" ∷ drop 1 words
opened [] e = absurd (false≢true e)
opened (word ∷ words) e = ap (λ (first : List ℕ). first ∷ words) ((bytes_eq-Decides word (codes "version")).0 e)

-- ---- the first line that isn't skipped

module _ (limits : Limits) (line : List ℕ) (lines : List (List ℕ)) (short : length line ≤ 1024) (read : is_skipped (line_words line) ≡ false) where
  module _ (opens : opens_version (line_words line) ≡ true) where
    pub named_first : (names : List (List ℕ)) (script : List Line) → IsHeader limits.columns (line_words line) names → AreLines limits (named names) lines script → AreInVersion limits (line ∷ lines) names script
    named_first names script heads are = (short, rw (read, opens) (record { heads = heads; are = are }))

    pub header_faulty : (n : ℕ) (kind : FaultKind) → first_fault (header_checks limits.columns (line_words line)) ≡ Some kind → first_faulty limits n (line ∷ lines) ≡ Some (n, kind)
    header_faulty n kind e =
        let found : header_fault limits.columns line ≡ Some kind = rw (le-ltb 1024 (length line) short) e in
        rw (read, opens, found) refl

    pub named_faulty : (n : ℕ) (names : List (List ℕ)) → IsHeader limits.columns (line_words line) names → first_faulty limits n (line ∷ lines) ≡ faulty_line limits (named names) (n + 1) lines
    named_faulty n names heads =
        let passes : first_fault (header_checks limits.columns (line_words line)) ≡ None = header_passes limits.columns (line_words line) names heads in
        let none : header_fault limits.columns line ≡ None = rw (le-ltb 1024 (length line) short) passes in
        let same : drop 2 (line_words line) ≡ names = ap (drop 2) heads.words_are in
        let step : first_faulty limits n (line ∷ lines) ≡ faulty_line limits (named (drop 2 (line_words line))) (n + 1) lines = rw (read, opens, none) refl in
        step ∙ ap (λ (found : List (List ℕ)). faulty_line limits (named found) (n + 1) lines) same

  module _ (plain : opens_version (line_words line) ≡ false) where
    pub numbered_first : (script : List Line) → AreLines limits (numbered limits.columns) (line ∷ lines) script → AreInVersion limits (line ∷ lines) (default_names limits.columns) script
    numbered_first script are = (short, rw (read, plain) (record { names_are = refl; are = are }))

    pub numbered_faulty : (n : ℕ) → first_faulty limits n (line ∷ lines) ≡ faulty_line limits (numbered limits.columns) n (line ∷ lines)
    numbered_faulty n = rw (read, plain) refl

-- ---- what a script is

-- the first line of a script is skipped, a header, or the first of its lines
pub version_cases : (limits : Limits) (line : List ℕ) (lines names : List (List ℕ)) (script : List Line) → AreInVersion limits (line ∷ lines) names script
    → Cases (is_skipped (line_words line)) (AreInVersion limits lines names script) (Cases (opens_version (line_words line)) (AreNamed limits (line_words line) lines names script) (AreNumbered limits (line ∷ lines) names script))
version_cases limits line lines names script are =
    elim (cases_at _ _ (is_skipped (line_words line)) are.1) [
      | inl skipped ↦ inl skipped
      | inr read ↦ inr (read.0, cases_at _ _ (opens_version (line_words line)) read.1)
    ]

pub script_faultless : (limits : Limits) (n : ℕ) (lines names : List (List ℕ)) (script : List Line) → AreInVersion limits lines names script → first_faulty limits n lines ≡ None
script_faultless limits n [] names script are = refl
script_faultless limits n (line ∷ lines) names script are =
    elim (version_cases limits line lines names script are) [
      | inl skipped ↦ rw (skipped.0, length_none line are.0) (script_faultless limits (n + 1) lines names script skipped.1)
      | inr read ↦ elim read.1 [
        | inl heads ↦ named_faulty limits line lines are.0 read.0 heads.0 n names heads.1.heads ∙ lines_faultless limits (named names) (n + 1) lines script heads.1.are
        | inr plain ↦ numbered_faulty limits line lines are.0 read.0 plain.0 n ∙ lines_faultless limits (numbered limits.columns) n (line ∷ lines) script plain.1.are
      ]
    ]

pub text_fault_none : (limits : Limits) (text : List ℕ) (script : List Line) → IsScript limits text script → text_fault limits text ≡ None
text_fault_none limits text script is = script_faultless limits 1 (text_lines text) is.0 script is.1

one_header : (limits : Limits) (words names others : List (List ℕ)) → IsHeader limits.columns words names → IsHeader limits.columns words others → names ≡ others
one_header limits words names others a b = ap (drop 2) (sym a.words_are ∙ b.words_are)

pub one_version : (limits : Limits) (lines names others : List (List ℕ)) (script other : List Line) → AreInVersion limits lines names script → AreInVersion limits lines others other → (names ≡ others) × (script ≡ other)
one_version limits [] names others script other p q = (p.names_are ∙ sym q.names_are, p.are ∙ sym q.are)
one_version limits (line ∷ lines) names others script other p q =
    elim (version_cases limits line lines names script p) [
      | inl skipped ↦ elim (version_cases limits line lines others other q) [
        | inl also ↦ one_version limits lines names others script other skipped.1 also.1
        | inr read ↦ absurd (false≢true (sym read.0 ∙ skipped.0))
      ]
      | inr read ↦ elim (version_cases limits line lines others other q) [
        | inl skipped ↦ absurd (false≢true (sym read.0 ∙ skipped.0))
        | inr also ↦ elim read.1 [
          | inl heads ↦ elim also.1 [
            | inl too ↦
                let same = one_header limits (line_words line) names others heads.1.heads too.1.heads in
                (same, one_list limits (named others) lines script other (subst (λ (found : List (List ℕ)). AreLines limits (named found) lines script) same heads.1.are) too.1.are)
            | inr plain ↦ absurd (false≢true (sym plain.0 ∙ heads.0))
          ]
          | inr plain ↦ elim also.1 [
            | inl heads ↦ absurd (false≢true (sym plain.0 ∙ heads.0))
            | inr too ↦ (plain.1.names_are ∙ sym too.1.names_are, one_list limits (numbered limits.columns) (line ∷ lines) script other plain.1.are too.1.are)
          ]
        ]
      ]
    ]

pub one_script : (limits : Limits) (lines : List (List ℕ)) (a b : List Line) → AreScript limits lines a → AreScript limits lines b → a ≡ b
one_script limits lines a b p q = (one_version limits lines p.0 q.0 a b p.1 q.1).1

-- what holds of each line of the grammar holds of the lines of a script
module _ (limits : Limits) (P : Line → Type 0) (holds : (columns : Columns) (words : List (List ℕ)) (line : Line) → count_of columns ≡ limits.columns → IsLine limits columns words line → P line) where
  each_of : (columns : Columns) (texts : List (List ℕ)) (script : List Line) → count_of columns ≡ limits.columns → AreLines limits columns texts script → All P script
  each_of columns [] script many are = subst (λ (all : List Line). All P all) (sym are) (All-nil P)
  each_of columns (text ∷ texts) script many are =
      elim (first_cases limits columns text texts script are) [
        | inl skipped ↦ each_of columns texts script many skipped.1
        | inr read ↦ subst (λ (all : List Line). All P all) (sym read.1.parts)
            (All-cons P read.1.first read.1.rest (holds columns (line_words text) read.1.first many read.1.is_line) (each_of columns texts read.1.rest many read.1.is_rest))
      ]

  each_in_version : (texts names : List (List ℕ)) (script : List Line) → AreInVersion limits texts names script → All P script
  each_in_version [] names script are = each_of (numbered limits.columns) [] script refl are.are
  each_in_version (text ∷ texts) names script are =
      elim (version_cases limits text texts names script are) [
        | inl skipped ↦ each_in_version texts names script skipped.1
        | inr read ↦ elim read.1 [
          | inl heads ↦ each_of (named names) texts script (eqb-true (length names) limits.columns (and_parts _ _ heads.1.heads.names_are).0) heads.1.are
          | inr plain ↦ each_of (numbered limits.columns) (text ∷ texts) script refl plain.1.are
        ]
      ]

  pub each_line : (texts : List (List ℕ)) (script : List Line) → AreScript limits texts script → All P script
  each_line texts script are = each_in_version texts are.0 script are.1

-- ---- what the reader answers

pub answers_script : (limits : Limits) (text : List ℕ) (r : Result (List Line) ScriptFault) → IfOk r (λ script. IsScript limits text script) → IfErr r (Explains limits text) → (script : List Line) → IsScript limits text script → AnswersUnlessMemory r (Ok script)
answers_script limits text (Ok found) ok err script is = ap (λ (s : List Line). Ok s) (one_script limits (text_lines text) found script ok is)
answers_script limits text (Err (faults.Bad line kind)) ok err script is =
    absurd (none-some (line, kind) (sym (text_fault_none limits text script is) ∙ err))
answers_script limits text (Err faults.OutOfMemory) ok err script is = tt

pub answers_named : (limits : Limits) (text : List ℕ) (r : Result Named ScriptFault) → IfOk r (IsNamed limits text) → IfErr r (Explains limits text) → (due : Named) → IsNamed limits text due → AnswersUnlessMemory r (Ok due)
answers_named limits text (Ok found) ok err due is =
    let same = one_version limits (text_lines text) found.names due.names found.script due.script ok is in
    λ i. Ok (record { names = same.0 i; script = same.1 i })
answers_named limits text (Err (faults.Bad line kind)) ok err due is =
    absurd (none-some (line, kind) (sym (script_faultless limits 1 (text_lines text) due.names due.script is) ∙ err))
answers_named limits text (Err faults.OutOfMemory) ok err due is = tt

-- a faulty line is answered, where what is read has none
pub answers_fault : {X : Type 0} (limits : Limits) (text : List ℕ) (r : Result X ScriptFault) → IfOk r (λ found. text_fault limits text ≡ None) → IfErr r (Explains limits text) → (line : ℕ) (kind : FaultKind) → text_fault limits text ≡ Some (line, kind) → AnswersUnlessMemory r (Err (faults.Bad line kind))
answers_fault limits text (Ok found) ok err line kind is = absurd (none-some (line, kind) (sym ok ∙ is))
answers_fault limits text (Err (faults.Bad number fault)) ok err line kind is =
    let same : Some (number, fault) ≡ Some (line, kind) = sym err ∙ is in
    let parts = some_pair_parts number line fault kind same in
    rw (parts.0, parts.1) refl
answers_fault limits text (Err faults.OutOfMemory) ok err line kind is = tt

-- what is read has no faulty line
pub script_none : (limits : Limits) (text : List ℕ) (r : Result (List Line) ScriptFault) → IfOk r (λ script. IsScript limits text script) → IfOk r (λ found. text_fault limits text ≡ None)
script_none limits text (Ok script) ok = text_fault_none limits text script ok
script_none limits text (Err fault) ok = tt

pub named_none : (limits : Limits) (text : List ℕ) (r : Result Named ScriptFault) → IfOk r (IsNamed limits text) → IfOk r (λ found. text_fault limits text ≡ None)
named_none limits text (Ok found) ok = script_faultless limits 1 (text_lines text) found.names found.script ok
named_none limits text (Err fault) ok = tt

-- a script and its names are a script
pub script_of : (limits : Limits) (text : List ℕ) (r : Result Named ScriptFault) → IfOk r (IsNamed limits text) → IfOk r (λ found. IsScript limits text found.script)
script_of limits text (Ok found) ok = (found.names, ok)
script_of limits text (Err fault) ok = tt

-- a fault that is handed on
pub err_is : {X : Type 0} (P : ScriptFault → Type 0) (r : Result X ScriptFault) (fault : ScriptFault) → IsErrAnd r (λ y. y ≡ fault) → P fault → IfErr r P
err_is P (Ok x) fault is holds = tt
err_is P (Err y) fault is holds = subst P (sym is) holds

-- ---- behind the lines that are skipped

module _ (limits : Limits) (text rest : List ℕ) (number : ℕ) (is_header : Bool) (at : IsStart text rest number is_header) where
  pub start_named : (found : Named) → AreInVersion limits (text_lines rest) found.names found.script → IsNamed limits text found
  start_named found are = subst (λ (all : List (List ℕ)). AreInVersion limits all found.names found.script) (sym at.parts) (in_version limits at.before (text_lines rest) found.names found.script at.passed are)

  pub start_faulty : first_faulty limits 1 (text_lines text) ≡ first_faulty limits (number + 1) (text_lines rest)
  start_faulty = ap (first_faulty limits 1) at.parts ∙ (faulty_behind limits 1 at.before (text_lines rest) at.passed ∙ ap (λ n. first_faulty limits n (text_lines rest)) (omega (arith, at.counted)))

  -- no header: the script is of version 1
  pub start_numbered : is_header ≡ false → (script : List Line) → AreLines limits (numbered limits.columns) (text_lines rest) script → IsNamed limits text (record { names = default_names limits.columns; script = script })
  start_numbered plain script are = start_named (record { names = default_names limits.columns; script = script }) (by (text_lines rest) refl are)
    where
      by : (lines : List (List ℕ)) → text_lines rest ≡ lines → AreLines limits (numbered limits.columns) lines script → AreInVersion limits lines (default_names limits.columns) script
      by [] e are = record { names_are = refl; are = are }
      by (line ∷ lines) e are =
          let one = at.first line lines e in
          numbered_first limits line lines one.0 one.1 (one.2 ∙ plain) script are

  pub start_numbered_faulty : is_header ≡ false → (fault : ScriptFault) → ExplainsLines limits (numbered limits.columns) (number + 1) (text_lines rest) fault → Explains limits text fault
  start_numbered_faulty plain faults.OutOfMemory e = tt
  start_numbered_faulty plain (faults.Bad line kind) e = start_faulty ∙ (by (text_lines rest) refl ∙ e)
    where
      by : (lines : List (List ℕ)) → text_lines rest ≡ lines → first_faulty limits (number + 1) lines ≡ faulty_line limits (numbered limits.columns) (number + 1) lines
      by [] e = refl
      by (first ∷ lines) e =
          let one = at.first first lines e in
          numbered_faulty limits first lines one.0 one.1 (one.2 ∙ plain) (number + 1)

  -- a header: the script is of version 2
  module _ (heads : is_header ≡ true) (line : List ℕ) (after : List ℕ) (first : text_lines rest ≡ line ∷ text_lines after) where
    pub start_header : (names : List (List ℕ)) (script : List Line) → IsHeader limits.columns (line_words line) names → AreLines limits (named names) (text_lines after) script → IsNamed limits text (record { names = names; script = script })
    start_header names script is are =
        let one = at.first line (text_lines after) first in
        start_named (record { names = names; script = script }) (subst (λ (all : List (List ℕ)). AreInVersion limits all names script) (sym first) (named_first limits line (text_lines after) one.0 one.1 (one.2 ∙ heads) names script is are))

    pub start_bad_header : (kind : FaultKind) → first_fault (header_checks limits.columns (line_words line)) ≡ Some kind → text_fault limits text ≡ Some (number + 1, kind)
    start_bad_header kind e =
        let one = at.first line (text_lines after) first in
        start_faulty ∙ (ap (first_faulty limits (number + 1)) first ∙ header_faulty limits line (text_lines after) one.0 one.1 (one.2 ∙ heads) (number + 1) kind e)

    pub start_header_faulty : (names : List (List ℕ)) → IsHeader limits.columns (line_words line) names → (fault : ScriptFault) → ExplainsLines limits (named names) (number + 1 + 1) (text_lines after) fault → Explains limits text fault
    start_header_faulty names is faults.OutOfMemory e = tt
    start_header_faulty names is (faults.Bad place kind) e =
        let one = at.first line (text_lines after) first in
        start_faulty ∙ (ap (first_faulty limits (number + 1)) first ∙ (named_faulty limits line (text_lines after) one.0 one.1 (one.2 ∙ heads) (number + 1) names is ∙ e))

    pub start_header_answer : (words : List (List ℕ)) → words ≡ line_words line → (fault : ScriptFault) → ReadsHeader (number + 1) limits.columns words (Err fault) → Explains limits text fault
    start_header_answer words same faults.OutOfMemory is = tt
    start_header_answer words same (faults.Bad place kind) is = start_bad_header kind (ap (λ (ws : List (List ℕ)). first_fault (header_checks limits.columns ws)) (sym same) ∙ is.1) ∙ ap (λ n. Some (n, kind)) (sym is.0)

    -- the words behind the first one are those of a header
    pub start_words : (words : List (List ℕ)) → words ≡ line_words line → codes "version" ∷ drop 1 words ≡ line_words line
    start_words words same =
        let one = at.first line (text_lines after) first in
        ap (λ (ws : List (List ℕ)). codes "version" ∷ drop 1 ws) same ∙ sym (opened (line_words line) (one.2 ∙ heads))
