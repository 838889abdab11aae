-- A text that begins with the words of a line in their plainest form: its first line is that line.
use Rattle.std.proofs.Common.{◌≡◌, ℕ, ◌+◌, ◌<◌, ◌≤◌, true, false, nat_lt, leb, List, [], ◌∷◌, ◌++◌, length, map, get_or, Option, Some, None, cond, refl, sym, ap, subst, ◌∙◌, arith}
use Rattle.std.specs.List.{AllByRecursion, list_all, slice_split}
use Rattle.std.specs.Char.{is_ascii_digit}
use Rattle.std.specs.Str.Lines.{strip_carriage_return}
use Rattle.std.proofs.lemmas.Bool.{and_parts, leb-true, ne_eqb}
use Rattle.std.proofs.lemmas.List.{length-append, length_push}
use Rattle.std.proofs.lemmas.List.Splits.{slice_split_at, length-slice_split}
use Rattle.lst_layout.specs.declared.limits.Limits.{Limits}
use Rattle.lst_model.specs.declared.lines.Line.{Line}
use Rattle.lst_model.specs.declared.lines.Line.TheVariants as lines
use Rattle.lst_model.specs.declared.lines.Call.{Call}
use Rattle.lst_model.specs.declared.lines.Call.TheVariants.{Begin, AsOf, Get, Insert, Update, Delete, Sum, Count, Scan, Find, Commit, Abort}
use Rattle.lst_model.specs.Cells.{Cell}
use Rattle.lst_script.specs.Texts.{is_newline, without_empty_end, text_lines, line_words}
use Rattle.lst_script.specs.Numbers.{number_of, cell_of, change_of}
use Rattle.lst_script.specs.Columns.{Columns, numbered, named, count_of, AreProper, IsColumn, column_named}
use Rattle.lst_script.specs.Pairs.{pair_of}
use Rattle.lst_script.specs.Table.{Form, phase, merge, first_forms, session_forms, form_named, name_of}
use Rattle.lst_script.specs.Grammar.{AreCells, AreChanges, AreArguments, IsLine}
use Rattle.lst_script.specs.Faults.{is_skipped}
use Rattle.lst_script.specs.Canonical.{spaced}
use Rattle.lst_script.specs.Fronts.{BeginsWith}
use Rattle.lst_script.proofs.Faultless.{first_digit}
use Rattle.lst_script.proofs.Naming.{name_is}
use Rattle.lst_script.proofs.PairFronts.{column_is_name, pair_is_plain}
use Rattle.lst_script.proofs.PairsAgain.{names_formed, plain_name}
use Rattle.lst_script.proofs.Parts.{front_stays}
use Rattle.lst_script.proofs.Plain.{IsPlain, name_plain}
use Rattle.lst_script.proofs.Printed.{words_again, spaced_text, newlines_none, kept_whole, spaced_short, some_bytes}
use Rattle.lst_script.proofs.Scanning.{IsSoFar, IsSoFar-read}
use Rattle.lst_script.proofs.WordsPlain.{number_plain, number_under, cell_plain, change_plain, each_plain, as_many}

-- plain words, no more than so many
abbrev ArePlainWords : ℕ → List (List ℕ) → Type 0
ArePlainWords most words = AllByRecursion IsPlain words × (length words ≤ most)

one_plain : (words : List (List ℕ)) (n : ℕ) → (word : List ℕ) × (words ≡ word ∷ []) × (number_of word ≡ Some n) → ArePlainWords 9 words
one_plain words n one = rw one.1 ((number_plain one.0 n one.2, tt), omega arith)

none_plain : (words : List (List ℕ)) → words ≡ [] → ArePlainWords 9 words
none_plain words none = rw none (tt, omega arith)

-- so many at most behind a key
column_plain : (columns : Columns) → AreProper columns → (word : List ℕ) (column : ℕ) → IsColumn columns word column → IsPlain word
column_plain (numbered count) proper word column is =
    let number = number_under (λ n. cond (nat_lt n count) (Some n) None) (number_of word) (Some column) is in
    number_plain word number.0 number.1
column_plain (named names) proper word column is =
    let here : column_named names word ≡ Some column = cc in
    plain_name word (column_is_name names word column (names_formed (length names) names proper) here)

cells_plain : (columns : Columns) → count_of columns ≤ 8 → AreProper columns → (words : List (List ℕ)) (row : List Cell) → AreCells columns words row → ArePlainWords 8 words
cells_plain (numbered count) narrow proper words row are = (each_plain cell_of cell_plain words row are.cells, omega (arith, as_many cell_of words row are.cells, are.as_many, narrow))
cells_plain (named names) narrow proper words row are =
    (each_plain (pair_of names) (pair_is_plain names (names_formed (length names) names proper)) words are.settings are.are.pairs, omega (arith, are.are.few, narrow))

changes_plain : (columns : Columns) → count_of columns ≤ 8 → AreProper columns → (words : List (List ℕ)) (patch : List (Option Cell)) → AreChanges columns words patch → ArePlainWords 8 words
changes_plain (numbered count) narrow proper words patch are = (each_plain change_of change_plain words patch are.changes, omega (arith, as_many change_of words patch are.changes, are.as_many, narrow))
changes_plain (named names) narrow proper words patch are =
    (each_plain (pair_of names) (pair_is_plain names (names_formed (length names) names proper)) words are.settings are.are.pairs, omega (arith, are.are.few, narrow))

module _ (columns : Columns) (narrow : count_of columns ≤ 8) (proper : AreProper columns) where
  arguments_plain : (call : Call) (words : List (List ℕ)) → AreArguments columns call words → ArePlainWords 9 words
  arguments_plain Begin words are = none_plain words are
  arguments_plain (AsOf time) words are = one_plain words time are
  arguments_plain (Get key) words are = one_plain words key are
  arguments_plain (Insert key row) words are =
      let cells = cells_plain columns narrow proper are.1 row are.4 in
      rw are.2 ((number_plain are.0 key are.3, cells.0), omega (arith, cells.1))
  arguments_plain (Update key patch) words are =
      let changes = changes_plain columns narrow proper are.1 patch are.4 in
      rw are.2 ((number_plain are.0 key are.3, changes.0), omega (arith, changes.1))
  arguments_plain (Delete key) words are = one_plain words key are
  arguments_plain (Sum column) words are = rw are.1 ((column_plain columns proper are.0 column are.2, tt), omega arith)
  arguments_plain Count words are = none_plain words are
  arguments_plain Scan words are = none_plain words are
  arguments_plain (Find column value) words are = rw are.2 ((column_plain columns proper are.0 column are.3, (number_plain are.1 value are.4, tt)), omega arith)
  arguments_plain Commit words are = none_plain words are
  arguments_plain Abort words are = none_plain words are

word_named : (forms : List Form) (word : List ℕ) (form : Form) → form_named forms word ≡ Some form → IsPlain word
word_named forms word form told = subst (λ (w : List ℕ). IsPlain w) (sym (name_is forms word form told)) (name_plain form)

-- ---- and they are a line that isn't skipped

pub record IsFront (words : List (List ℕ)) : Type 0 where
  pub plain : AllByRecursion IsPlain words
  pub few : length words ≤ 11
  pub some : 0 < length (spaced words)
  pub not_skipped : is_skipped words ≡ false

not_hash : (word : List ℕ) (n : ℕ) (words : List (List ℕ)) → number_of word ≡ Some n → is_skipped (word ∷ words) ≡ false
not_hash word n words is =
    let digit : is_ascii_digit (get_or word 0 0) ≡ true = first_digit word n is in
    let range = and_parts (leb 48 (get_or word 0 0)) (leb (get_or word 0 0) 57) digit in
    ne_eqb (get_or word 0 0) 35 (λ e. absurd (omega (arith, e, leb-true 48 (get_or word 0 0) range.0)))

named_front : (name : List ℕ) (form : Form) (words : List (List ℕ)) → name ≡ name_of form → AllByRecursion IsPlain words → length words ≤ 2 → is_skipped (name_of form ∷ []) ≡ false → IsFront (name ∷ words)
named_front name form words is plain few not_skipped =
    subst (λ (n : List ℕ). IsFront (n ∷ words)) (sym is) (record {
      plain = (name_plain form, plain);
      few = omega (arith, few);
      some = some_bytes (name_of form) words (name_plain form).some;
      not_skipped = not_skipped;
    })

line_front : (limits : Limits) (columns : Columns) → count_of columns ≤ 8 → AreProper columns → (words : List (List ℕ)) (line : Line) → IsLine limits columns words line → IsFront words
line_front limits columns narrow proper words lines.Phase is = rw is.1 (named_front is.0 phase [] (name_is first_forms is.0 phase is.2) tt (omega arith) refl)
line_front limits columns narrow proper words (lines.Merge range column) is =
    rw is.3 (named_front is.0 merge (is.1 ∷ is.2 ∷ []) (name_is first_forms is.0 merge is.4) (number_plain is.1 range is.5, (column_plain columns proper is.2 column is.7, tt)) (omega arith) refl)
line_front limits columns narrow proper words (lines.Call session call) is =
    let behind = arguments_plain columns narrow proper call is.5.arguments is.5.are_arguments in
    rw (is.2, is.5.words_are) (record {
      plain = (number_plain is.0 session is.3, (word_named session_forms is.5.name _ is.5.is_named, behind.0));
      few = omega (arith, behind.1);
      some = some_bytes is.0 (is.5.name ∷ is.5.arguments) (number_plain is.0 session is.3).some;
      not_skipped = not_hash is.0 session (is.5.name ∷ is.5.arguments) is.3;
    })

-- ---- the first line of the text

first_line : (line rest : List ℕ) → 0 < length line → list_all (λ byte. nat_lt 31 byte) line ≡ true → text_lines (line ++ 10 ∷ rest) ≡ line ∷ text_lines rest
first_line line rest some text =
    let parts : slice_split is_newline (line ++ 10 ∷ rest) ≡ line ∷ slice_split is_newline rest = slice_split_at is_newline line 10 rest (newlines_none line text) refl in
    ap (λ (ps : List (List ℕ)). map strip_carriage_return (without_empty_end ps)) parts
    ∙ (ap (λ (ps : List (List ℕ)). map strip_carriage_return ps) (front_stays line (slice_split is_newline rest) (omega (arith, length-slice_split is_newline rest)))
    ∙ ap (λ (first : List ℕ). first ∷ text_lines rest) (kept_whole line some text))

pub IsSoFar-front : (limits : Limits) (columns : Columns) → count_of columns ≤ 8 → AreProper columns → (text rest after : List ℕ) (start number : ℕ) (script : List Line) (line : Line) → IsSoFar limits columns text rest start number script → BeginsWith (λ words. IsLine limits columns words line) rest after
    → IsSoFar limits columns text after start (number + 1) (script ++ line ∷ [])
IsSoFar-front limits columns narrow proper text rest after start number script line so_far begins =
    let words = begins.words in
    let front = line_front limits columns narrow proper words line begins.are in
    let again : line_words (spaced words) ≡ words = words_again words front.plain in
    let first : text_lines rest ≡ spaced words ∷ text_lines after = ap text_lines begins.parts ∙ first_line (spaced words) after front.some (spaced_text words front.plain) in
    let shorter : length after < length rest = omega (arith, ap length begins.parts, length-append (spaced words) (10 ∷ after)) in
    let short : length (spaced words) ≤ 1024 = omega (arith, spaced_short words front.plain, front.few) in
    IsSoFar-read limits columns text rest (spaced words) after start number script so_far first line shorter short
    (ap is_skipped again ∙ front.not_skipped)
    (subst (λ (ws : List (List ℕ)). IsLine limits columns ws line) (sym again) begins.are)

-- the lines that were read are counted by the script, and those that were skipped beside it
module _ (limits : Limits) (columns : Columns) (text rest : List ℕ) (start skipped : ℕ) (script : List Line) where
  -- where nothing was added, all is as before
  pub IsSoFar-same : (same : List Line) → IsSoFar limits columns text rest start (length script + skipped) script → same ≡ script → IsSoFar limits columns text rest start (length same + skipped) same
  IsSoFar-same same so_far is = rw is so_far

  -- one line more of the script
  pub IsSoFar-longer : (line : Line) → IsSoFar limits columns text rest start (length script + skipped + 1) (script ++ line ∷ []) → IsSoFar limits columns text rest start (length (script ++ line ∷ []) + skipped) (script ++ line ∷ [])
  IsSoFar-longer line so_far =
      let number : length script + skipped + 1 ≡ length (script ++ line ∷ []) + skipped = omega (arith, length_push script line) in
      subst (λ n. IsSoFar limits columns text rest start n (script ++ line ∷ [])) number so_far

  -- one line more that is skipped
  pub IsSoFar-over : IsSoFar limits columns text rest start (length script + skipped + 1) script → IsSoFar limits columns text rest start (length script + (skipped + 1)) script
  IsSoFar-over so_far =
      let number : length script + skipped + 1 ≡ length script + (skipped + 1) = omega arith in
      subst (λ n. IsSoFar limits columns text rest start n script) number so_far
