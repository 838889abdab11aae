-- Columns by their names, and pairs, that a text begins with.
use Rattle.std.proofs.Common.{◌≡◌, ℕ, zero, suc, ◌+◌, ◌<◌, ◌≤◌, Bool, true, false, not, cond, List, [], ◌∷◌, ◌++◌, length, take, drop, get_or, is_some, position, Option, Some, None, option_map, codes, bytes_eq, refl, sym, ap, subst, ◌∙◌, append_assoc, add-one, drop-cons, arith}
use Rattle.std.specs.List.{list_all, list_any}
use Rattle.std.proofs.lemmas.Bool.{and_parts, and_from, eqb-true, false≢true}
use Rattle.std.proofs.lemmas.List.{length-set, length-replicate, take-append-drop}
use Rattle.std.proofs.lemmas.List.Quantifiers.{position-Some}
use Rattle.std.proofs.lemmas.Option.{none-some}
use Rattle.std.proofs.lemmas.Slice.Eq.{bytes_eq-Decides}
use Rattle.lst_model.specs.Cells.{Cell}
use Rattle.lst_names.specs.Names.{is_name, are_names}
use Rattle.lst_script.specs.Numbers.{number_of}
use Rattle.lst_script.specs.Columns.{named, column_named}
use Rattle.lst_script.specs.Pairs.{Setting, is_equals, pair_name, pair_value, cell_of_value, setting_from, pair_of, is_set, set_by, are_apart, all_set, nothing_set, filled}
use Rattle.lst_script.specs.Canonical.{behind_spaces}
use Rattle.lst_script.specs.Headers.{IsHeader}
use Rattle.lst_script.specs.Fronts.{BeginsWithNumber, BeginsWithColumn, BeginsWithValue, GoesOnWithPair, GoesOnWithPairs, GoesOnWithCells, GoesOnWithChanges}
use Rattle.lst_script.proofs.Plain.{IsPlain, plain_from}
use Rattle.lst_script.proofs.PairsAgain.{pair_parts, joined_plain, no_null, name_is_column, names_formed, names_many}
use Rattle.lst_script.proofs.Pairing.{split_at}
use Rattle.lst_script.proofs.Beginnings.{HasRead, read_none, read_more}
use Rattle.lst_script.proofs.WordsPlain.{as_many, number_plain, number_few}

-- ---- names

nth_name : (names : List (List ℕ)) (c : ℕ) → list_all is_name names ≡ true → c < length names → is_name (get_or names c []) ≡ true
nth_name [] c are within = absurd (omega (arith, within))
nth_name (name ∷ names) zero are within = (and_parts (is_name name) (list_all is_name names) are).0
nth_name (name ∷ names) (suc c) are within = nth_name names c (and_parts (is_name name) (list_all is_name names) are).1 (omega (arith, within))

pub other_default : (names : List (List ℕ)) (c : ℕ) (name : List ℕ) → c < length names → get_or names c name ≡ get_or names c []
other_default [] c name within = absurd (omega (arith, within))
other_default (first ∷ names) zero name within = refl
other_default (first ∷ names) (suc c) name within = other_default names c name (omega (arith, within))

-- a word that is read as a column is its name
pub column_is_name : (names : List (List ℕ)) (word : List ℕ) (column : ℕ) → list_all is_name names ≡ true → column_named names word ≡ Some column → is_name word ≡ true
column_is_name names word column formed e =
    let at = position-Some (λ name. bytes_eq name word) names column [] e in
    let same : get_or names column [] ≡ word = (bytes_eq-Decides (get_or names column []) word).0 at.1 in
    subst (λ (w : List ℕ). is_name w ≡ true) same (nth_name names column formed at.0)

module _ (names : List (List ℕ)) (proper : are_names (length names) names ≡ true) where
  pub named_column_here : (text rest : List ℕ) (place column end : ℕ) → place < length names → text ≡ get_or names place [] ++ end ∷ rest → column ≡ place → BeginsWithColumn (named names) text column end rest
  named_column_here text rest place column end within parts is = record {
    word = get_or names place [];
    is_column = ap (λ o. Some o) (name_is_column (length names) names proper place within ∙ ap (λ c. Some c) (sym is));
    within = omega (arith, within, is);
    parts = parts;
  }

-- the names of a header
pub header_proper : (count : ℕ) (words names : List (List ℕ)) → IsHeader count words names → are_names (length names) names ≡ true
header_proper count words names is = subst (λ n. are_names n names ≡ true) (sym (names_many count names is.names_are)) is.names_are

-- ---- values

pub number_value : (text rest : List ℕ) (number : ℕ) → BeginsWithNumber text number rest → BeginsWithValue text (Some number) rest
number_value text rest number found = record {
  word = found.word;
  is_value = rw (no_null found.word number found.is_number, found.is_number) refl;
  parts = found.parts;
}

pub null_value : (text rest : List ℕ) → text ≡ codes "null" ++ rest → BeginsWithValue text None rest
null_value text rest parts = record { word = codes "null"; is_value = refl; parts = parts }

value_plain : (word : List ℕ) (cell : Cell) → cell_of_value word ≡ Some cell → IsPlain word × (length word ≤ 20)
value_plain word cell is = by (bytes_eq word (codes "null")) refl (number_of word) refl is
  where
    by : (b : Bool) → bytes_eq word (codes "null") ≡ b → (found : Option ℕ) → number_of word ≡ found → cond b (Some None) (option_map (λ n. Some n) found) ≡ Some cell → IsPlain word × (length word ≤ 20)
    by true e found number told =
        subst (λ (w : List ℕ). IsPlain w × (length w ≤ 20)) (sym ((bytes_eq-Decides word (codes "null")).0 e)) (plain_from (codes "null") refl, omega arith)
    by false e None number told = absurd cc
    by false e (Some n) number told = (number_plain word n number, number_few word n number)

-- ---- pairs

module _ (names : List (List ℕ)) (proper : are_names (length names) names ≡ true) where
  pub pair_here : (text pair word rest : List ℕ) (column : ℕ) (cell : Cell) → text ≡ 32 ∷ pair → BeginsWithColumn (named names) pair column 61 word → BeginsWithValue word cell rest → GoesOnWithPair names text (column, cell) rest
  pair_here text pair word rest column cell space found value =
      let is : column_named names found.word ≡ Some column = cc in
      let parts = pair_parts found.word value.word (column_is_name names found.word column (names_formed (length names) names proper) is) in
      record {
        word = found.word ++ 61 ∷ value.word;
        is_pair = rw (parts.0, parts.1, parts.2, is, value.is_value) refl;
        parts = space ∙ (ap (λ (bytes : List ℕ). 32 ∷ bytes) found.parts ∙ (ap (λ (bytes : List ℕ). 32 ∷ (found.word ++ 61 ∷ bytes)) value.parts ∙ ap (λ (bytes : List ℕ). 32 ∷ bytes) (sym (append_assoc found.word (61 ∷ value.word) rest))));
      }

-- a pair is its name, = and its value
pair_whole : (word : List ℕ) (end : ℕ) → position is_equals word ≡ Some end → word ≡ pair_name word ++ 61 ∷ pair_value word
pair_whole word end e =
    let at = position-Some is_equals word end 0 e in
    let parts = split_at word end e in
    let here : get_or word end 0 ≡ 61 = eqb-true (get_or word end 0) 61 at.1 in
    let behind : drop end word ≡ 61 ∷ drop (end + 1) word = drop-cons word end 0 at.0 ∙ (ap (λ b. b ∷ drop (suc end) word) here ∙ ap (λ k. 61 ∷ drop k word) (sym (add-one end))) in
    sym (take-append-drop end word)
    ∙ (ap (λ (bytes : List ℕ). take end word ++ bytes) behind
    ∙ (ap (λ (name : List ℕ). name ++ 61 ∷ drop (end + 1) word) (sym parts.0) ∙ ap (λ (value : List ℕ). pair_name word ++ 61 ∷ value) (sym parts.1)))

pub pair_is_plain : (names : List (List ℕ)) → list_all is_name names ≡ true → (word : List ℕ) (setting : Setting) → pair_of names word ≡ Some setting → IsPlain word
pair_is_plain names formed word setting is = by (position is_equals word) refl (column_named names (pair_name word)) refl (cell_of_value (pair_value word)) refl is
  where
    by : (at : Option ℕ) → position is_equals word ≡ at → (column : Option ℕ) → column_named names (pair_name word) ≡ column → (cell : Option Cell) → cell_of_value (pair_value word) ≡ cell → cond (is_some at) (setting_from column cell) None ≡ Some setting → IsPlain word
    by None at_is column column_is cell cell_is told = absurd (none-some setting told)
    by (Some end) at_is None column_is cell cell_is told = absurd (none-some setting told)
    by (Some end) at_is (Some column) column_is None cell_is told = absurd (none-some setting told)
    by (Some end) at_is (Some column) column_is (Some cell) cell_is told =
        let value = value_plain (pair_value word) cell cell_is in
        subst (λ (w : List ℕ). IsPlain w) (sym (pair_whole word end at_is)) (joined_plain (pair_name word) (pair_value word) (column_is_name names (pair_name word) column formed column_is) value.0 value.1)

-- ---- pairs one after the other

apart_more : (changes : List (Option Cell)) (settings : List Setting) (setting : Setting) → are_apart changes settings ≡ true → is_set (all_set changes settings) setting.0 ≡ false → are_apart changes (settings ++ setting ∷ []) ≡ true
apart_more changes [] setting apart free = rw free refl
apart_more changes (first ∷ settings) setting apart free =
    let parts = and_parts (not (is_set changes first.0)) (are_apart (set_by changes first) settings) apart in
    and_from (not (is_set changes first.0)) (are_apart (set_by changes first) (settings ++ setting ∷ [])) parts.0 (apart_more (set_by changes first) settings setting parts.1 free)

set_more : (changes : List (Option Cell)) (settings : List Setting) (setting : Setting) → all_set changes (settings ++ setting ∷ []) ≡ set_by (all_set changes settings) setting
set_more changes [] setting = refl
set_more changes (first ∷ settings) setting = set_more (set_by changes first) settings setting

-- so many pairs were read
pub record HasPairs (names : List (List ℕ)) (count : ℕ) (text rest : List ℕ) (changes : List (Option Cell)) : Type 0 where
  pub settings : List Setting
  pub read : HasRead (pair_of names) count text rest settings
  pub apart : are_apart (nothing_set (length names)) settings ≡ true
  pub changes_are : changes ≡ all_set (nothing_set (length names)) settings
  pub wide : length changes ≡ length names

module _ (names : List (List ℕ)) where
  pub no_pairs : (text : List ℕ) (changes : List (Option Cell)) → changes ≡ nothing_set (length names) → HasPairs names 0 text text changes
  no_pairs text changes unset = record {
    settings = [];
    read = read_none (pair_of names) text;
    apart = refl;
    changes_are = unset;
    wide = ap length unset ∙ length-replicate (length names) None;
  }

  pub pairs_more : (count : ℕ) (text rest after : List ℕ) (before changes : List (Option Cell)) (setting : Setting) → HasPairs names count text rest before → GoesOnWithPair names rest setting after → is_set before setting.0 ≡ false → changes ≡ set_by before setting → HasPairs names (count + 1) text after changes
  pairs_more count text rest after before changes setting so_far next free set =
      let unset = nothing_set (length names) in
      record {
        settings = so_far.settings ++ setting ∷ [];
        read = read_more (pair_of names) count text rest after next.word so_far.settings setting so_far.read next.is_pair next.parts;
        apart = apart_more unset so_far.settings setting so_far.apart (ap (λ (xs : List (Option Cell)). is_set xs setting.0) (sym so_far.changes_are) ∙ free);
        changes_are = set ∙ (ap (λ (xs : List (Option Cell)). set_by xs setting) so_far.changes_are ∙ sym (set_more unset so_far.settings setting));
        wide = ap length set ∙ (length-set before setting.0 (Some setting.1) ∙ so_far.wide);
      }

  pub pairs_ended : (count : ℕ) (text rest after : List ℕ) (changes : List (Option Cell)) → HasPairs names count text rest changes → count ≤ length names → rest ≡ 10 ∷ after → GoesOnWithPairs names text changes after
  pairs_ended count text rest after changes so_far few ended =
      let read = so_far.read in
      record {
        words = read.words;
        are = (
          record { settings = so_far.settings; pairs = read.are; apart = so_far.apart; after_is = so_far.changes_are },
          omega (arith, few, as_many (pair_of names) read.words so_far.settings read.are, read.as_many),
        );
        parts = read.parts ∙ ap (λ (bytes : List ℕ). behind_spaces read.words ++ bytes) ended;
      }

  pub cells_of_pairs : (text rest : List ℕ) (changes : List (Option Cell)) (row : List Cell) → GoesOnWithPairs names text changes rest → row ≡ filled changes → GoesOnWithCells (named names) text row rest
  cells_of_pairs text rest changes row found is =
      let are = found.are.0 in
      record {
        words = found.words;
        are = record {
          settings = are.settings;
          are = record { pairs = are.pairs; apart = are.apart; few = found.are.1 };
          row_is = is ∙ ap filled are.after_is;
        };
        parts = found.parts;
      }

  sets_none : (n : ℕ) → list_any is_some (nothing_set n) ≡ false
  sets_none zero = refl
  sets_none (suc n) = sets_none n

  some_setting : (n : ℕ) (settings : List Setting) (patch : List (Option Cell)) → patch ≡ all_set (nothing_set n) settings → list_any is_some patch ≡ true → 0 < length settings
  some_setting n [] patch is sets = absurd (false≢true (sym (sets_none n) ∙ (ap (list_any is_some) (sym is) ∙ sets)))
  some_setting n (setting ∷ settings) patch is sets = omega arith

  pub changes_of_pairs : (text rest : List ℕ) (changes patch : List (Option Cell)) → GoesOnWithPairs names text changes rest → patch ≡ changes → list_any is_some patch ≡ true → GoesOnWithChanges (named names) text patch rest
  changes_of_pairs text rest changes patch found is sets =
      let are = found.are.0 in
      let made = is ∙ are.after_is in
      record {
        words = found.words;
        are = record {
          settings = are.settings;
          are = record { pairs = are.pairs; apart = are.apart; few = found.are.1 };
          patch_is = made;
          sets = some_setting (length names) are.settings patch made sets;
        };
        parts = found.parts;
      }
