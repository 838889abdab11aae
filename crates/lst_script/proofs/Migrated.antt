-- A script that is read, with its names, is read again from its text of version 2.
use Rattle.std.proofs.Common.{◌≡◌, ℕ, zero, suc, ◌<◌, ◌≤◌, ◌^◌, Bool, true, false, ◌&&◌, nat_lt, nat_le, cond, List, [], ◌∷◌, length, map, set, bytes_eq, codes, inl, inr, Option, Some, None, unwrap_or, option_map, refl, sym, ap, subst, ◌∙◌, arith}
use Rattle.std.specs.Prelude.{All}
use Rattle.std.specs.List.{AllByRecursion, list_all}
use Rattle.std.specs.Char.{is_ascii_digit}
use Rattle.std.specs.Str.Parse.{digits_value}
use Rattle.std.specs.Fmt.{digits}
use Rattle.std.proofs.lemmas.Bool.{and_parts, ltb-true}
use Rattle.std.proofs.lemmas.List.Elements.{All-nil, All-cons}
use Rattle.std.proofs.lemmas.Option.{none-some, cond_some}
use Rattle.lst_layout.specs.Limits.{IsValid}
use Rattle.lst_layout.specs.declared.limits.Limits.{Limits}
use Rattle.lst_model.specs.declared.lines.Line.{Line}
use Rattle.lst_model.specs.declared.lines.Line.TheVariants as lines
use Rattle.lst_model.specs.declared.lines.Call.{Call}
use Rattle.lst_model.specs.declared.lines.Call.TheVariants.{Begin, AsOf, Get, Insert, Update, Delete, Sum, Count, Scan, Find, Commit, Abort}
use Rattle.lst_model.specs.Cells.{Cell}
use Rattle.lst_names.specs.Names.{are_names}
use Rattle.lst_script.specs.declared.scripts.Named.{Named}
use Rattle.lst_script.specs.Texts.{text_lines}
use Rattle.lst_script.specs.Numbers.{number_of, cell_of, keeps_column, change_of}
use Rattle.lst_script.specs.Columns.{Columns, numbered, named, count_of, column_named}
use Rattle.lst_script.specs.Pairs.{Setting, has_equals, pair_name, pair_value, cell_of_value, setting_from, pair_of, set_by, all_set, nothing_set, filled}
use Rattle.lst_script.specs.Grammar.{AreCells, AreChanges, AreArguments, IsLine}
use Rattle.lst_script.specs.Headers.{default_names}
use Rattle.lst_script.specs.Scripts.{AreInVersion, IsNamed}
use Rattle.lst_script.specs.Canonical.{named_text}
use Rattle.lst_script.specs.Printed.{IsCellWord, IsChangeWord, HasNumbers, IsSayable}
use Rattle.lst_script.proofs.Versions.{version_cases, each_line}
use Rattle.lst_script.proofs.Fitting.{line_fits}
use Rattle.lst_script.proofs.Printed.{named_printed_again}

-- ---- numbers that were read

small : (word : List ℕ) (n : ℕ) → number_of word ≡ Some n → n < 2 ^ 64
small word n e =
    let found = cond_some _ _ _ e in
    let digits_fit = list_all is_ascii_digit word && nat_lt (digits_value 10 word) (2 ^ 64) in
    let one = and_parts (nat_lt 0 (length word)) (nat_le (length word) 20 && digits_fit) found.0 in
    let two = and_parts (nat_le (length word) 20) digits_fit one.1 in
    let three = and_parts (list_all is_ascii_digit word) (nat_lt (digits_value 10 word) (2 ^ 64)) two.1 in
    subst (λ k. k < 2 ^ 64) found.1 (ltb-true (digits_value 10 word) (2 ^ 64) three.1)

module _ (all : List (List ℕ)) where
  number_cell : (found : Option ℕ) (cell : Cell) → ((n : ℕ) → found ≡ Some n → n < 2 ^ 64) → option_map (λ n. Some n) found ≡ Some cell → IsCellWord (named all) cell
  number_cell None cell less e = absurd (none-some cell e)
  number_cell (Some n) cell less e =
      let same : Some n ≡ cell = cc in
      subst (IsCellWord (named all)) same (less n refl)

  word_cell : (word : List ℕ) (cell : Cell) → cell_of word ≡ Some cell → IsCellWord (named all) cell
  word_cell word cell e = number_cell (number_of word) cell (small word) e

  value_cell : (word : List ℕ) (cell : Cell) → cell_of_value word ≡ Some cell → IsCellWord (named all) cell
  value_cell word cell e = by (bytes_eq word (codes "null")) e
    where
      by : (b : Bool) → cond b (Some None) (option_map (λ n. Some n) (number_of word)) ≡ Some cell → IsCellWord (named all) cell
      by true e =
          let same : None ≡ cell = cc in
          subst (IsCellWord (named all)) same tt
      by false e = number_cell (number_of word) cell (small word) e

  change_read : (word : List ℕ) (change : Option Cell) → change_of word ≡ Some change → IsChangeWord (named all) change
  change_read word change e = by (keeps_column word) (cell_of word) refl e
    where
      by : (b : Bool) (found : Option Cell) → cell_of word ≡ found → cond b (Some None) (option_map (λ cell. Some cell) found) ≡ Some change → IsChangeWord (named all) change
      by true found is e =
          let same : None ≡ change = cc in
          subst (IsChangeWord (named all)) same tt
      by false None is e = absurd (none-some change e)
      by false (Some cell) is e =
          let same : Some cell ≡ change = cc in
          subst (IsChangeWord (named all)) same (word_cell word cell is)

  pair_cell : (names : List (List ℕ)) (word : List ℕ) (setting : Setting) → pair_of names word ≡ Some setting → IsCellWord (named all) setting.1
  pair_cell names word setting e = by (has_equals word) (column_named names (pair_name word)) (cell_of_value (pair_value word)) refl e
    where
      by : (equals : Bool) (column : Option ℕ) (cell : Option Cell) → cell_of_value (pair_value word) ≡ cell → cond equals (setting_from column cell) None ≡ Some setting → IsCellWord (named all) setting.1
      by false column cell is e = absurd (none-some setting e)
      by true None cell is e = absurd (none-some setting e)
      by true (Some column) None is e = absurd (none-some setting e)
      by true (Some column) (Some cell) is e =
          let same : (column, cell) ≡ setting = cc in
          subst (λ (s : Setting). IsCellWord (named all) s.1) same (value_cell (pair_value word) cell is)

  -- ---- lists of them

  each_read : {X : Type 0} (P : X → Type 0) (read : List ℕ → Option X) → ((word : List ℕ) (x : X) → read word ≡ Some x → P x) → (words : List (List ℕ)) (xs : List X) → map read words ≡ map (λ x. Some x) xs → All P xs
  each_read P read holds words [] e = All-nil P
  each_read P read holds [] (x ∷ xs) e = absurd cc
  each_read P read holds (word ∷ words) (x ∷ xs) e =
      let first : read word ≡ Some x = cc in
      let rest : map read words ≡ map (λ x. Some x) xs = cc in
      All-cons P x xs (holds word x first) (each_read P read holds words xs rest)

  abbrev AreSmall : List (Option Cell) → Type 0
  AreSmall changes = AllByRecursion (IsChangeWord (named all)) changes

  nothing_small : (n : ℕ) → AreSmall (nothing_set n)
  nothing_small zero = tt
  nothing_small (suc n) = (tt, nothing_small n)

  put_small : (changes : List (Option Cell)) (i : ℕ) (cell : Cell) → AreSmall changes → IsCellWord (named all) cell → AreSmall (set changes i (Some cell))
  put_small [] i cell are is = tt
  put_small (change ∷ changes) zero cell are is = (is, are.1)
  put_small (change ∷ changes) (suc i) cell are is = (are.0, put_small changes i cell are.1 is)

  pairs_small : (names words : List (List ℕ)) (settings : List Setting) (changes : List (Option Cell)) → map (pair_of names) words ≡ map (λ s. Some s) settings → AreSmall changes → AreSmall (all_set changes settings)
  pairs_small names words [] changes e are = are
  pairs_small names [] (setting ∷ settings) changes e are = absurd cc
  pairs_small names (word ∷ words) (setting ∷ settings) changes e are =
      let first : pair_of names word ≡ Some setting = cc in
      let rest : map (pair_of names) words ≡ map (λ s. Some s) settings = cc in
      pairs_small names words settings (set_by changes setting) rest (put_small changes setting.0 setting.1 are (pair_cell names word setting first))

  changes_all : (changes : List (Option Cell)) → AreSmall changes → All (IsChangeWord (named all)) changes
  changes_all [] are = All-nil (IsChangeWord (named all))
  changes_all (change ∷ changes) are = All-cons (IsChangeWord (named all)) change changes are.0 (changes_all changes are.1)

  filled_one : (change : Option Cell) → IsChangeWord (named all) change → IsCellWord (named all) (unwrap_or change None)
  filled_one None is = tt
  filled_one (Some cell) is = is

  filled_all : (changes : List (Option Cell)) → AreSmall changes → All (IsCellWord (named all)) (filled changes)
  filled_all [] are = All-nil (IsCellWord (named all))
  filled_all (change ∷ changes) are = All-cons (IsCellWord (named all)) (unwrap_or change None) (filled changes) (filled_one change are.0) (filled_all changes are.1)

  row_small : (columns : Columns) (words : List (List ℕ)) (row : List Cell) → AreCells columns words row → All (IsCellWord (named all)) row
  row_small (numbered m) words row are = each_read (IsCellWord (named all)) cell_of word_cell words row are.cells
  row_small (named names) words row are = subst (All (IsCellWord (named all))) (sym are.row_is) (filled_all (all_set (nothing_set (length names)) are.settings) (pairs_small names words are.settings (nothing_set (length names)) are.are.pairs (nothing_small (length names))))

  patch_small : (columns : Columns) (words : List (List ℕ)) (patch : List (Option Cell)) → AreChanges columns words patch → All (IsChangeWord (named all)) patch
  patch_small (numbered m) words patch are = each_read (IsChangeWord (named all)) change_of change_read words patch are.changes
  patch_small (named names) words patch are = subst (All (IsChangeWord (named all))) (sym are.patch_is) (changes_all (all_set (nothing_set (length names)) are.settings) (pairs_small names words are.settings (nothing_set (length names)) are.are.pairs (nothing_small (length names))))

  call_numbers : (columns : Columns) (call : Call) (words : List (List ℕ)) → AreArguments columns call words → HasNumbers (named all) call
  call_numbers columns Begin words are = tt
  call_numbers columns (AsOf time) words are = small are.0 time are.2
  call_numbers columns (Get key) words are = small are.0 key are.2
  call_numbers columns (Insert key row) words are = (small are.0 key are.3, row_small columns are.1 row are.4)
  call_numbers columns (Update key patch) words are = (small are.0 key are.3, patch_small columns are.1 patch are.4)
  call_numbers columns (Delete key) words are = small are.0 key are.2
  call_numbers columns (Sum column) words are = tt
  call_numbers columns Count words are = tt
  call_numbers columns Scan words are = tt
  call_numbers columns (Find column value) words are = small are.1 value are.4
  call_numbers columns Commit words are = tt
  call_numbers columns Abort words are = tt

  line_said : (limits : Limits) (columns : Columns) (words : List (List ℕ)) (line : Line) → count_of columns ≡ limits.columns → IsLine limits columns words line → IsSayable limits (named all) line
  line_said limits columns words lines.Phase many is = record { fits = line_fits limits columns words lines.Phase many is; numbers = tt }
  line_said limits columns words (lines.Merge range column) many is = record { fits = line_fits limits columns words (lines.Merge range column) many is; numbers = tt }
  line_said limits columns words (lines.Call session call) many is = record { fits = line_fits limits columns words (lines.Call session call) many is; numbers = call_numbers columns call is.5.arguments is.5.are_arguments }

-- ---- names

defaults : (count : ℕ) → count ≤ 8 → are_names count (default_names count) ≡ true
unfolding digits
defaults zero few = refl
defaults (suc zero) few = refl
defaults (suc (suc zero)) few = refl
defaults (suc (suc (suc zero))) few = refl
defaults (suc (suc (suc (suc zero)))) few = refl
defaults (suc (suc (suc (suc (suc zero))))) few = refl
defaults (suc (suc (suc (suc (suc (suc zero)))))) few = refl
defaults (suc (suc (suc (suc (suc (suc (suc zero))))))) few = refl
defaults (suc (suc (suc (suc (suc (suc (suc (suc zero)))))))) few = refl
defaults (suc (suc (suc (suc (suc (suc (suc (suc (suc count))))))))) few = absurd (omega (arith, few))

pub ordered : (limits : Limits) (lines names : List (List ℕ)) (script : List Line) → limits.columns ≤ 8 → AreInVersion limits lines names script → are_names limits.columns names ≡ true
ordered limits [] names script few are = ap (are_names limits.columns) are.names_are ∙ defaults limits.columns few
ordered limits (line ∷ lines) names script few are =
    elim (version_cases limits line lines names script are) [
      | inl skipped ↦ ordered limits lines names script few skipped.1
      | inr read ↦ elim read.1 [
        | inl heads ↦ heads.1.heads.names_are
        | inr plain ↦ ap (are_names limits.columns) plain.1.names_are ∙ defaults limits.columns few
      ]
    ]

pub read_again : (limits : Limits) (text : List ℕ) (found : Named) → IsValid limits → IsNamed limits text found → IsNamed limits (named_text found.names found.script) found
read_again limits text found valid is =
    named_printed_again limits found.names found.script valid (ordered limits (text_lines text) found.names found.script valid.columns.1 is)
    (each_line limits (IsSayable limits (named found.names)) (line_said found.names limits) (text_lines text) found.script (found.names, is))
