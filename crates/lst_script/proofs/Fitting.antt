-- The lines of a script fit its table.
use Rattle.std.proofs.Common.{◌≡◌, ℕ, zero, suc, ◌<◌, Bool, true, false, cond, nat_lt, List, [], ◌∷◌, length, map, set, is_some, inl, inr, Option, Some, None, option_map, refl, sym, ap, subst, ◌∙◌, arith}
use Rattle.std.specs.Prelude.{All}
use Rattle.std.specs.List.{list_any}
use Rattle.std.proofs.lemmas.Bool.{ltb-true, or_left, or_right, or_cases, false≢true}
use Rattle.std.proofs.lemmas.List.{length-map, length-set, length-replicate}
use Rattle.std.proofs.lemmas.List.Folds.{Any-from_list_any}
use Rattle.std.proofs.lemmas.Option.{none-some, cond_some}
use Rattle.lst_layout.specs.declared.limits.Limits.{Limits}
use Rattle.lst_model.specs.declared.lines.Line.{Line}
use Rattle.lst_model.specs.declared.lines.Line.TheVariants as lines
use Rattle.lst_model.specs.declared.lines.Call.{Call}
use Rattle.lst_model.specs.declared.lines.Call.TheVariants.{Begin, AsOf, Get, Insert, Update, Delete, Sum, Count, Scan, Find, Commit, Abort}
use Rattle.lst_model.specs.Cells.{Cell}
use Rattle.lst_model.specs.Lines.{CallFits, LineFits}
use Rattle.lst_script.specs.Texts.{text_lines}
use Rattle.lst_script.specs.Numbers.{number_of}
use Rattle.lst_script.specs.Columns.{Columns, numbered, named, count_of, column_named, column_read}
use Rattle.lst_script.specs.Pairs.{Setting, has_equals, pair_name, pair_value, cell_of_value, setting_from, pair_of, set_by, all_set, nothing_set, patch_of}
use Rattle.lst_script.specs.Grammar.{AreCells, AreChanges, AreArguments, IsLine}
use Rattle.lst_script.specs.Scripts.{IsScript}
use Rattle.lst_script.proofs.Versions.{each_line}

-- ---- columns

named_below : (names : List (List ℕ)) (word : List ℕ) (column : ℕ) → column_named names word ≡ Some column → column < length names
named_below names word column e =
    let at = cond_some _ _ _ e in
    subst (λ k. k < length names) at.1 (ltb-true _ _ at.0)

column_below : (columns : Columns) (word : List ℕ) (column : ℕ) → column_read columns word ≡ Some (Some column) → column < count_of columns
column_below (numbered m) word column e = by (number_of word) e
  where
    among : (n : ℕ) (b : Bool) → nat_lt n m ≡ b → cond b (Some n) None ≡ Some column → column < m
    among n true low e =
        let same : n ≡ column = cc in
        subst (λ k. k < m) same (ltb-true n m low)
    among n false low e = absurd (none-some column e)

    by : (found : Option ℕ) → option_map (λ n. cond (nat_lt n m) (Some n) None) found ≡ Some (Some column) → column < m
    by None e = absurd (none-some (Some column) e)
    by (Some n) e =
        let one : cond (nat_lt n m) (Some n) None ≡ Some column = cc in
        among n (nat_lt n m) refl one
column_below (named names) word column e =
    let one : column_named names word ≡ Some column = cc in
    named_below names word column one

-- the column of a pair is one of the table
pair_below : (names : List (List ℕ)) (word : List ℕ) (setting : Setting) → pair_of names word ≡ Some setting → setting.0 < length names
pair_below names word setting e = by (has_equals word) (column_named names (pair_name word)) refl (cell_of_value (pair_value word)) e
  where
    by : (equals : Bool) (column : Option ℕ) → column_named names (pair_name word) ≡ column → (cell : Option Cell) → cond equals (setting_from column cell) None ≡ Some setting → setting.0 < length names
    by false column is cell e = absurd (none-some setting e)
    by true None is cell e = absurd (none-some setting e)
    by true (Some column) is None e = absurd (none-some setting e)
    by true (Some column) is (Some cell) e =
        let same : (column, cell) ≡ setting = cc in
        subst (λ (s : Setting). s.0 < length names) same (named_below names (pair_name word) column is)

-- ---- rows and patches

all_set_wide : (changes : List (Option Cell)) (settings : List Setting) → length (all_set changes settings) ≡ length changes
all_set_wide changes [] = refl
all_set_wide changes (setting ∷ settings) = all_set_wide (set_by changes setting) settings ∙ length-set changes setting.0 (Some setting.1)

patch_wide : (n : ℕ) (settings : List Setting) → length (patch_of n settings) ≡ n
patch_wide n settings = all_set_wide (nothing_set n) settings ∙ length-replicate n None

row_fits : (columns : Columns) (words : List (List ℕ)) (row : List Cell) → AreCells columns words row → length row ≡ count_of columns
row_fits (numbered m) words row are = are.as_many
row_fits (named names) words row are = ap length are.row_is ∙ (length-map (patch_of (length names) are.settings) _ ∙ patch_wide (length names) are.settings)

patch_fits : (columns : Columns) (words : List (List ℕ)) (patch : List (Option Cell)) → AreChanges columns words patch → length patch ≡ count_of columns
patch_fits (numbered m) words patch are = are.as_many
patch_fits (named names) words patch are = ap length are.patch_is ∙ patch_wide (length names) are.settings

-- a column that is set stays set
put_sets : (changes : List (Option Cell)) (i : ℕ) (cell : Cell) → i < length changes → list_any is_some (set changes i (Some cell)) ≡ true
put_sets [] i cell within = absurd (omega (arith, within))
put_sets (change ∷ changes) zero cell within = refl
put_sets (change ∷ changes) (suc i) cell within = or_right (is_some change) (list_any is_some (set changes i (Some cell))) (put_sets changes i cell (omega (arith, within)))

put_keeps : (changes : List (Option Cell)) (i : ℕ) (cell : Cell) → list_any is_some changes ≡ true → list_any is_some (set changes i (Some cell)) ≡ true
put_keeps [] i cell e = absurd (false≢true e)
put_keeps (change ∷ changes) zero cell e = refl
put_keeps (change ∷ changes) (suc i) cell e = elim (or_cases (is_some change) (list_any is_some changes) e) [
  | inl here ↦ or_left (is_some change) (list_any is_some (set changes i (Some cell))) here
  | inr later ↦ or_right (is_some change) (list_any is_some (set changes i (Some cell))) (put_keeps changes i cell later)
]

all_keep : (changes : List (Option Cell)) (settings : List Setting) → list_any is_some changes ≡ true → list_any is_some (all_set changes settings) ≡ true
all_keep changes [] e = e
all_keep changes (setting ∷ settings) e = all_keep (set_by changes setting) settings (put_keeps changes setting.0 setting.1 e)

pairs_set : (names words : List (List ℕ)) (settings : List Setting) → map (pair_of names) words ≡ map (λ s. Some s) settings → 0 < length settings → list_any is_some (patch_of (length names) settings) ≡ true
pairs_set names [] [] e some = absurd (omega (arith, some))
pairs_set names (word ∷ words) [] e some = absurd (omega (arith, some))
pairs_set names [] (setting ∷ settings) e some = absurd cc
pairs_set names (word ∷ words) (setting ∷ settings) e some =
    let first : pair_of names word ≡ Some setting = cc in
    let within : setting.0 < length (nothing_set (length names)) = subst (λ n. setting.0 < n) (sym (length-replicate (length names) None)) (pair_below names word setting first) in
    all_keep (set_by (nothing_set (length names)) setting) settings (put_sets (nothing_set (length names)) setting.0 setting.1 within)

patch_sets : (columns : Columns) (words : List (List ℕ)) (patch : List (Option Cell)) → AreChanges columns words patch → list_any is_some patch ≡ true
patch_sets (numbered m) words patch are = are.sets
patch_sets (named names) words patch are = ap (list_any is_some) are.patch_is ∙ pairs_set names words are.settings are.are.pairs are.sets

-- ---- lines

call_fits : (limits : Limits) (columns : Columns) → count_of columns ≡ limits.columns → (call : Call) (words : List (List ℕ)) → AreArguments columns call words → CallFits limits.columns call
call_fits limits columns many Begin words are = tt
call_fits limits columns many (AsOf time) words are = tt
call_fits limits columns many (Get key) words are = tt
call_fits limits columns many (Insert key row) words are = row_fits columns are.1 row are.4 ∙ many
call_fits limits columns many (Update key patch) words are = record { width = patch_fits columns are.1 patch are.4 ∙ many; sets = Any-from_list_any is_some patch (patch_sets columns are.1 patch are.4) }
call_fits limits columns many (Delete key) words are = tt
call_fits limits columns many (Sum column) words are = subst (λ n. column < n) many (column_below columns are.0 column are.2)
call_fits limits columns many Count words are = tt
call_fits limits columns many Scan words are = tt
call_fits limits columns many (Find column number) words are = subst (λ n. column < n) many (column_below columns are.0 column are.3)
call_fits limits columns many Commit words are = tt
call_fits limits columns many Abort words are = tt

pub line_fits : (limits : Limits) (columns : Columns) (words : List (List ℕ)) (line : Line) → count_of columns ≡ limits.columns → IsLine limits columns words line → LineFits limits.sessions limits.ranges limits.columns line
line_fits limits columns words lines.Phase many is = tt
line_fits limits columns words (lines.Merge range column) many is = (is.6, subst (λ n. column < n) many (column_below columns is.2 column is.7))
line_fits limits columns words (lines.Call session call) many is = (is.4, call_fits limits columns many call is.5.arguments is.5.are_arguments)

-- each line of a script fits the table
pub script_fits : (limits : Limits) (text : List ℕ) (script : List Line) → IsScript limits text script → All (LineFits limits.sessions limits.ranges limits.columns) script
script_fits limits text script is = each_line limits (LineFits limits.sessions limits.ranges limits.columns) (line_fits limits) (text_lines text) script is
