-- The numbers of a script's lines fit 64 bits, and its rows and patches are as wide as the table.
use Rattle.std.proofs.Common.{◌≡◌, ℕ, zero, suc, ◌<◌, ◌^◌, Bool, true, false, ◌&&◌, nat_lt, nat_le, cond, List, [], ◌∷◌, length, map, set, bytes_eq, codes, Option, Some, None, option_map, refl, sym, subst, arith}
use Rattle.std.specs.List.{AllByRecursion, list_all}
use Rattle.std.specs.Char.{is_ascii_digit}
use Rattle.std.specs.Str.Parse.{digits_value}
use Rattle.std.proofs.lemmas.Bool.{and_parts, ltb-true}
use Rattle.std.proofs.lemmas.List.Elements.{recursion_from_All}
use Rattle.std.proofs.lemmas.Option.{none-some, cond_some}
use Rattle.lst_layout.specs.Limits.{IsValid}
use Rattle.lst_layout.specs.declared.limits.Limits.{Limits}
use Rattle.lst_model.specs.declared.acts.Act.{Act}
use Rattle.lst_model.specs.declared.acts.Act.TheVariants.{Put, Set, Del}
use Rattle.lst_model.specs.declared.acts.Write.{Write}
use Rattle.lst_model.specs.declared.lines.Line.{Line}
use Rattle.lst_model.specs.declared.lines.Line.TheVariants as lines
use Rattle.lst_model.specs.declared.lines.Call.{Call}
use Rattle.lst_model.specs.declared.lines.Call.TheVariants.{Begin, AsOf, Get, Insert, Update, Delete, Sum, Count, Scan, Find, Commit, Abort}
use Rattle.lst_model.specs.Cells.{Cell}
use Rattle.lst_model.specs.Lines.{CallFits}
use Rattle.lst_replies.specs.ReportTexts.{CellFits}
use Rattle.lst_replies.specs.Runs.{write_of}
use Rattle.lst_script.specs.Numbers.{number_of, cell_of, keeps_column, change_of}
use Rattle.lst_script.specs.Columns.{Columns, numbered, named, count_of, column_named}
use Rattle.lst_script.specs.Pairs.{Setting, has_equals, pair_name, pair_value, cell_of_value, setting_from, pair_of, set_by, all_set, nothing_set, filled}
use Rattle.lst_script.specs.Grammar.{AreCells, AreChanges, AreArguments, IsLine}
use Rattle.lst_script.specs.Scripts.{AreScript}
use Rattle.lst_script.proofs.Versions.{each_line}
use Rattle.lst_script.proofs.Fitting.{line_fits}

-- ---- what a line gives

abbrev pub ChangeFits : Option Cell → Type 0
ChangeFits None = Unit {0}
ChangeFits (Some cell) = CellFits cell

-- a row, or the changes of one, as wide as the table, with numbers of 64 bits
abbrev pub ActFits : ℕ → Act → Type 0
ActFits columns (Put row) = (length row ≡ columns) × AllByRecursion CellFits row
ActFits columns (Set patch) = AllByRecursion ChangeFits patch
ActFits columns Del = Unit {0}

-- a line's session and column are below the limits, and the write that it asks for fits
pub record CallHolds (limits : Limits) (session : ℕ) (call : Call) : Type 0 where
  pub below : session < 2 ^ 32
  pub fits : CallFits limits.columns call
  pub write : (write : Write) → write_of call ≡ Some write → (write.key < 2 ^ 64) × ActFits limits.columns write.act

abbrev pub LineHolds : Limits → Line → Type 0
LineHolds limits lines.Phase = Unit {0}
LineHolds limits (lines.Merge range column) = Unit {0}
LineHolds limits (lines.Call session call) = CallHolds limits session call

-- ---- words

word_number : (word : List ℕ) (n : ℕ) → number_of word ≡ Some n → n < 2 ^ 64
word_number word n e =
    let found = cond_some _ _ _ e in
    let digits_fit = list_all is_ascii_digit word && nat_lt (digits_value 10 word) (2 ^ 64) in
    let one = and_parts (nat_lt 0 (length word)) (nat_le (length word) 20 && digits_fit) found.0 in
    let two = and_parts (nat_le (length word) 20) digits_fit one.1 in
    let three = and_parts (list_all is_ascii_digit word) (nat_lt (digits_value 10 word) (2 ^ 64)) two.1 in
    subst (λ k. k < 2 ^ 64) found.1 (ltb-true (digits_value 10 word) (2 ^ 64) three.1)

cell_from : (found : Option ℕ) (cell : Cell) → ((n : ℕ) → found ≡ Some n → n < 2 ^ 64) → option_map (λ n. Some n) found ≡ Some cell → CellFits cell
cell_from None cell less e = absurd (none-some cell e)
cell_from (Some n) cell less e =
    let same : Some n ≡ cell = cc in
    subst CellFits same (less n refl)

word_cell : (word : List ℕ) (cell : Cell) → cell_of word ≡ Some cell → CellFits cell
word_cell word cell e = cell_from (number_of word) cell (word_number word) e

word_change : (word : List ℕ) (change : Option Cell) → change_of word ≡ Some change → ChangeFits change
word_change word change e = by (keeps_column word) (cell_of word) refl e
  where
    by : (b : Bool) (found : Option Cell) → cell_of word ≡ found → cond b (Some None) (option_map (λ cell. Some cell) found) ≡ Some change → ChangeFits change
    by true found is e =
        let same : None ≡ change = cc in
        subst ChangeFits same tt
    by false None is e = absurd (none-some change e)
    by false (Some cell) is e =
        let same : Some cell ≡ change = cc in
        subst ChangeFits same (word_cell word cell is)

value_cell : (word : List ℕ) (cell : Cell) → cell_of_value word ≡ Some cell → CellFits cell
value_cell word cell e = by (bytes_eq word (codes "null")) e
  where
    by : (b : Bool) → cond b (Some None) (option_map (λ n. Some n) (number_of word)) ≡ Some cell → CellFits cell
    by true e =
        let same : None ≡ cell = cc in
        subst CellFits same tt
    by false e = cell_from (number_of word) cell (word_number word) e

pair_cell : (names : List (List ℕ)) (word : List ℕ) (setting : Setting) → pair_of names word ≡ Some setting → CellFits setting.1
pair_cell names word setting e = by (has_equals word) (column_named names (pair_name word)) (cell_of_value (pair_value word)) refl e
  where
    by : (equals : Bool) (column : Option ℕ) (cell : Option Cell) → cell_of_value (pair_value word) ≡ cell → cond equals (setting_from column cell) None ≡ Some setting → CellFits setting.1
    by false column cell is e = absurd (none-some setting e)
    by true None cell is e = absurd (none-some setting e)
    by true (Some column) None is e = absurd (none-some setting e)
    by true (Some column) (Some cell) is e =
        let same : (column, cell) ≡ setting = cc in
        subst (λ (s : Setting). CellFits s.1) same (value_cell (pair_value word) cell is)

-- ---- rows and patches

each_read : {X : Type 0} (P : X → Type 0) (read : List ℕ → Option X) → ((word : List ℕ) (x : X) → read word ≡ Some x → P x) → (words : List (List ℕ)) (xs : List X) → map read words ≡ map (λ x. Some x) xs → AllByRecursion P xs
each_read P read holds words [] e = tt
each_read P read holds [] (x ∷ xs) e = absurd cc
each_read P read holds (word ∷ words) (x ∷ xs) e =
    let first : read word ≡ Some x = cc in
    let rest : map read words ≡ map (λ x. Some x) xs = cc in
    (holds word x first, each_read P read holds words xs rest)

nothing_fits : (n : ℕ) → AllByRecursion ChangeFits (nothing_set n)
nothing_fits zero = tt
nothing_fits (suc n) = (tt, nothing_fits n)

put_fits : (changes : List (Option Cell)) (i : ℕ) (cell : Cell) → AllByRecursion ChangeFits changes → CellFits cell → AllByRecursion ChangeFits (set changes i (Some cell))
put_fits [] i cell are is = tt
put_fits (change ∷ changes) zero cell are is = (is, are.1)
put_fits (change ∷ changes) (suc i) cell are is = (are.0, put_fits changes i cell are.1 is)

settings_fit : (settings : List Setting) (changes : List (Option Cell)) → AllByRecursion (λ (s : Setting). CellFits s.1) settings → AllByRecursion ChangeFits changes → AllByRecursion ChangeFits (all_set changes settings)
settings_fit [] changes each are = are
settings_fit (setting ∷ settings) changes each are = settings_fit settings (set_by changes setting) each.1 (put_fits changes setting.0 setting.1 are each.0)

filled_fits : (changes : List (Option Cell)) → AllByRecursion ChangeFits changes → AllByRecursion CellFits (filled changes)
filled_fits [] are = tt
filled_fits (None ∷ changes) are = (tt, filled_fits changes are.1)
filled_fits (Some cell ∷ changes) are = (are.0, filled_fits changes are.1)

pairs_fit : (names words : List (List ℕ)) (settings : List Setting) → map (pair_of names) words ≡ map (λ s. Some s) settings → AllByRecursion ChangeFits (all_set (nothing_set (length names)) settings)
pairs_fit names words settings e =
    settings_fit settings (nothing_set (length names)) (each_read (λ (s : Setting). CellFits s.1) (pair_of names) (pair_cell names) words settings e) (nothing_fits (length names))

cells_fit : (columns : Columns) (words : List (List ℕ)) (row : List Cell) → AreCells columns words row → AllByRecursion CellFits row
cells_fit (numbered m) words row are = each_read CellFits cell_of word_cell words row are.cells
cells_fit (named names) words row are = subst (AllByRecursion CellFits) (sym are.row_is) (filled_fits (all_set (nothing_set (length names)) are.settings) (pairs_fit names words are.settings are.are.pairs))

changes_fit : (columns : Columns) (words : List (List ℕ)) (patch : List (Option Cell)) → AreChanges columns words patch → AllByRecursion ChangeFits patch
changes_fit (numbered m) words patch are = each_read ChangeFits change_of word_change words patch are.changes
changes_fit (named names) words patch are = subst (AllByRecursion ChangeFits) (sym are.patch_is) (pairs_fit names words are.settings are.are.pairs)

-- ---- lines

module _ (limits : Limits) where
  abbrev WriteIs : Write → Type 0
  WriteIs write = (write.key < 2 ^ 64) × ActFits limits.columns write.act

  one_write : (one : Write) → WriteIs one → (write : Write) → ◌≡◌ {A = Option Write} (Some one) (Some write) → WriteIs write
  one_write one is write e =
      let same : one ≡ write = cc in
      subst WriteIs same is

  call_writes : (columns : Columns) (call : Call) (words : List (List ℕ)) → AreArguments columns call words → CallFits limits.columns call → (write : Write) → write_of call ≡ Some write → WriteIs write
  call_writes columns (Insert key row) words are fits write e = one_write (record { key = key; act = Put row }) (word_number are.0 key are.3, (fits, cells_fit columns are.1 row are.4)) write e
  call_writes columns (Update key patch) words are fits write e = one_write (record { key = key; act = Set patch }) (word_number are.0 key are.3, changes_fit columns are.1 patch are.4) write e
  call_writes columns (Delete key) words are fits write e = one_write (record { key = key; act = Del }) (word_number are.0 key are.2, tt) write e
  call_writes columns Begin words are fits write e = absurd (none-some write e)
  call_writes columns (AsOf time) words are fits write e = absurd (none-some write e)
  call_writes columns (Get key) words are fits write e = absurd (none-some write e)
  call_writes columns (Sum column) words are fits write e = absurd (none-some write e)
  call_writes columns Count words are fits write e = absurd (none-some write e)
  call_writes columns Scan words are fits write e = absurd (none-some write e)
  call_writes columns (Find column value) words are fits write e = absurd (none-some write e)
  call_writes columns Commit words are fits write e = absurd (none-some write e)
  call_writes columns Abort words are fits write e = absurd (none-some write e)

  line_holds : IsValid limits → (columns : Columns) (words : List (List ℕ)) (line : Line) → count_of columns ≡ limits.columns → IsLine limits columns words line → LineHolds limits line
  line_holds valid columns words lines.Phase many is = tt
  line_holds valid columns words (lines.Merge range column) many is = tt
  line_holds valid columns words (lines.Call session call) many is =
      let fits = line_fits limits columns words (lines.Call session call) many is in
      record {
        below = omega (arith, fits.0, valid.sessions.1);
        fits = fits.1;
        write = call_writes columns call is.5.arguments is.5.are_arguments fits.1;
      }

  pub script_holds : IsValid limits → (texts : List (List ℕ)) (script : List Line) → AreScript limits texts script → AllByRecursion (LineHolds limits) script
  script_holds valid texts script are = recursion_from_All (LineHolds limits) script (each_line limits (LineHolds limits) (line_holds valid) texts script are)
