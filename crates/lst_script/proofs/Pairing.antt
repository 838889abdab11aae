-- Pairs one after the other: what they set, and their checks.
use Rattle.std.proofs.Common.{◌≡◌, ℕ, zero, suc, ◌+◌, ◌<◌, ◌≤◌, Bool, true, false, not, ◌&&◌, cond, nat_le, List, [], ◌∷◌, ◌++◌, length, map, take, drop, replicate, is_none, Option, Some, None, unwrap_or, position, refl, sym, ap, subst, ◌∙◌, append_assoc, add-one, drop-cons, get_or, Bor, arith}
use Rattle.std.proofs.lemmas.Bool.{and_parts, and_from, le-leb}
use Rattle.std.proofs.lemmas.List.{length-replicate, length-set}
use Rattle.std.proofs.lemmas.Option.{none-some, cond_some}
use Rattle.lst_model.specs.Cells.{Cell}
use Rattle.lst_script.specs.declared.faults.FaultKind.{FaultKind}
use Rattle.lst_script.specs.declared.faults.FaultKind.TheVariants.{BadNumber, BadColumn, BadPair, RepeatedColumn}
use Rattle.lst_layout.specs.declared.limits.Limits.{Limits}
use Rattle.lst_script.specs.Texts.{texts}
use Rattle.lst_script.specs.Numbers.{number_of}
use Rattle.lst_script.specs.Columns.{named, column_named}
use Rattle.lst_script.specs.Pairs.{is_equals, has_equals, pair_name, pair_value, cell_of_value, Setting, setting_from, pair_of, is_set, set_by, are_apart, nothing_set}
use Rattle.lst_script.specs.Table.{Place, pair, number, insert, update}
use Rattle.lst_script.specs.Faults.{Check, first_fault, all_pass, is_readable, is_range, is_column, argument_checks, one_pair_checks, pair_read, pair_checks}
use Rattle.lst_script.specs.Reading.{ArePairs}

-- ---- counts and places

-- a test that each pair passes
pub all_pass-pairs : (test : Place → List ℕ → Bool) → ((word : List ℕ) → test pair word ≡ true) → (n : ℕ) (words : List (List ℕ)) → all_pass test (replicate n pair) words ≡ true
all_pass-pairs test passes zero words = refl
all_pass-pairs test passes (suc n) [] = refl
all_pass-pairs test passes (suc n) (word ∷ words) = rw (passes word) (all_pass-pairs test passes n words)

pub count_in : (key : List ℕ) (words : List (List ℕ)) (n : ℕ) → length words ≤ n → (nat_le 1 (length (key ∷ words)) && nat_le (length (key ∷ words)) (length (number ∷ replicate n pair))) ≡ true
count_in key words n few =
    let all : length (number ∷ replicate n pair) ≡ suc n = ap suc (length-replicate n pair) in
    and_from (nat_le 1 (length (key ∷ words))) (nat_le (length (key ∷ words)) (length (number ∷ replicate n pair))) (le-leb 1 (length (key ∷ words)) (omega arith)) (le-leb (length (key ∷ words)) (length (number ∷ replicate n pair)) (omega (arith, few, all)))

-- ---- the checks of one pair

module _ (names : List (List ℕ)) (changes : List (Option Cell)) (word : List ℕ) where
  -- what it is where it fails none of them
  pub found : (setting : Setting) → pair_of names word ≡ Some setting → is_set changes setting.0 ≡ false → (more : List Check) → first_fault (one_pair_checks names changes word ++ more) ≡ first_fault more
  found setting is free more = by (has_equals word) (column_named names (pair_name word)) (cell_of_value (pair_value word)) is
    where
      by : (equals : Bool) (column : Option ℕ) (cell : Option Cell) → cond equals (setting_from column cell) None ≡ Some setting
          → cond (not equals) (Some BadPair) (cond (is_none column) (Some BadColumn) (cond (is_set changes (unwrap_or column 0)) (Some RepeatedColumn) (cond (is_none cell) (Some BadNumber) (first_fault more)))) ≡ first_fault more
      by false column cell e = absurd (none-some setting e)
      by true None cell e = absurd (none-some setting e)
      by true (Some column) None e = absurd (none-some setting e)
      by true (Some column) (Some cell) e =
          let same : (column, cell) ≡ setting = cc in
          rw (ap (λ (s : Setting). is_set changes s.0) same ∙ free) refl

  pub read_is : (setting : Setting) → pair_of names word ≡ Some setting → pair_read names word ≡ setting
  read_is setting is = by (has_equals word) (column_named names (pair_name word)) (cell_of_value (pair_value word)) is
    where
      by : (equals : Bool) (column : Option ℕ) (cell : Option Cell) → cond equals (setting_from column cell) None ≡ Some setting → (unwrap_or column 0, unwrap_or cell None) ≡ setting
      by false column cell e = absurd (none-some setting e)
      by true None cell e = absurd (none-some setting e)
      by true (Some column) None e = absurd (none-some setting e)
      by true (Some column) (Some cell) e = cc

  -- a pair that fails none sets a column that wasn't set
  pub passed_pair : (more : List Check) → first_fault (one_pair_checks names changes word ++ more) ≡ None → (pair_of names word ≡ Some (pair_read names word)) × (is_set changes (pair_read names word).0 ≡ false) × (first_fault more ≡ None)
  passed_pair more e = by (has_equals word) (column_named names (pair_name word)) (cell_of_value (pair_value word)) e
    where
      last : (column : ℕ) (b : Bool) → is_set changes column ≡ b → cond b (Some RepeatedColumn) (first_fault more) ≡ None → (is_set changes column ≡ false) × (first_fault more ≡ None)
      last column true is e = absurd (none-some RepeatedColumn (sym e))
      last column false is e = (is, e)

      by_number : (b : Bool) → cond b (Some RepeatedColumn) (Some BadNumber) ≡ None → ⊥
      by_number true e = none-some RepeatedColumn (sym e)
      by_number false e = none-some BadNumber (sym e)

      by : (equals : Bool) (column : Option ℕ) (cell : Option Cell) → cond (not equals) (Some BadPair) (cond (is_none column) (Some BadColumn) (cond (is_set changes (unwrap_or column 0)) (Some RepeatedColumn) (cond (is_none cell) (Some BadNumber) (first_fault more)))) ≡ None
          → (cond equals (setting_from column cell) None ≡ Some (unwrap_or column 0, unwrap_or cell None)) × (is_set changes (unwrap_or column 0) ≡ false) × (first_fault more ≡ None)
      by false column cell e = absurd (none-some BadPair (sym e))
      by true None cell e = absurd (none-some BadColumn (sym e))
      by true (Some column) None e = absurd (by_number (is_set changes column) e)
      by true (Some column) (Some cell) e =
          let two = last column (is_set changes column) refl e in
          (refl, two.0, two.1)

  -- a fault is found whatever stands behind
  pub more_faults : (more : List Check) (kind : FaultKind) → first_fault (one_pair_checks names changes word) ≡ Some kind → first_fault (one_pair_checks names changes word ++ more) ≡ Some kind
  more_faults more kind e = by (not (has_equals word)) (is_none (column_named names (pair_name word))) (is_set changes (unwrap_or (column_named names (pair_name word)) 0)) (is_none (cell_of_value (pair_value word))) e
    where
      by : (a b c d : Bool) → cond a (Some BadPair) (cond b (Some BadColumn) (cond c (Some RepeatedColumn) (cond d (Some BadNumber) None))) ≡ Some kind
          → cond a (Some BadPair) (cond b (Some BadColumn) (cond c (Some RepeatedColumn) (cond d (Some BadNumber) (first_fault more)))) ≡ Some kind
      by true b c d e = e
      by false true c d e = e
      by false false true d e = e
      by false false false true e = e
      by false false false false e = absurd (none-some kind e)

-- ---- the checks of pairs

pub pairs_pass : (names : List (List ℕ)) (changes : List (Option Cell)) (words : List (List ℕ)) (settings : List Setting) (more : List Check) → map (pair_of names) words ≡ map (λ s. Some s) settings → are_apart changes settings ≡ true
    → first_fault (pair_checks names changes words ++ more) ≡ first_fault more
pairs_pass names changes [] settings more e apart = refl
pairs_pass names changes (word ∷ words) [] more e apart = absurd cc
pairs_pass names changes (word ∷ words) (setting ∷ settings) more e apart =
    let first : pair_of names word ≡ Some setting = cc in
    let rest : map (pair_of names) words ≡ map (λ s. Some s) settings = cc in
    let parts = and_parts (not (is_set changes setting.0)) (are_apart (set_by changes setting) settings) apart in
    ap first_fault (append_assoc (one_pair_checks names changes word) (pair_checks names (set_by changes (pair_read names word)) words) more)
    ∙ (found names changes word setting first (not_true (is_set changes setting.0) parts.0) (pair_checks names (set_by changes (pair_read names word)) words ++ more)
    ∙ (ap (λ (s : Setting). first_fault (pair_checks names (set_by changes s) words ++ more)) (read_is names changes word setting first) ∙ pairs_pass names (set_by changes setting) words settings more rest parts.1))
  where
    not_true : (b : Bool) → not b ≡ true → b ≡ false
    not_true true e = absurd cc
    not_true false e = refl

-- pairs that fail none are settings that are apart
pub pairs_complete : (names : List (List ℕ)) (changes : List (Option Cell)) (words : List (List ℕ)) (more : List Check) → first_fault (pair_checks names changes words ++ more) ≡ None
    → (map (pair_of names) words ≡ map (λ s. Some s) (map (pair_read names) words)) × (are_apart changes (map (pair_read names) words) ≡ true) × (first_fault more ≡ None)
pairs_complete names changes [] more e = (refl, refl, e)
pairs_complete names changes (word ∷ words) more e =
    let now = passed_pair names changes word (pair_checks names (set_by changes (pair_read names word)) words ++ more) (sym (ap first_fault (append_assoc (one_pair_checks names changes word) (pair_checks names (set_by changes (pair_read names word)) words) more)) ∙ e) in
    let later = pairs_complete names (set_by changes (pair_read names word)) words more now.2 in (
      (λ j. now.0 j ∷ later.0 j),
      and_from (not (is_set changes (pair_read names word).0)) (are_apart (set_by changes (pair_read names word)) (map (pair_read names) words)) (ap not now.1) later.1,
      later.2,
    )

fault_stays : (xs ys : List Check) (kind : FaultKind) → first_fault xs ≡ Some kind → first_fault (xs ++ ys) ≡ Some kind
fault_stays [] ys kind e = absurd (none-some kind e)
fault_stays (x ∷ xs) ys kind e = by x.fails e (fault_stays xs ys kind)
  where
    by : (b : Bool) → cond b (Some x.fault) (first_fault xs) ≡ Some kind → (first_fault xs ≡ Some kind → first_fault (xs ++ ys) ≡ Some kind) → cond b (Some x.fault) (first_fault (xs ++ ys)) ≡ Some kind
    by true e later = e
    by false e later = later e

-- a faulty pair is the fault of its line
module _ (limits : Limits) (names : List (List ℕ)) (key : List ℕ) (n : ℕ) (words : List (List ℕ)) (kind : FaultKind) (few : length words ≤ length names) (key_is : number_of key ≡ Some n) (fault : first_fault (pair_checks names (nothing_set (length names)) words) ≡ Some kind) where
  pub insert_faulty : first_fault (argument_checks limits (named names) insert (key ∷ words)) ≡ Some kind
  insert_faulty =
      let read = all_pass-pairs (is_readable (named names)) (λ word. refl) (length names) words in
      let ranged = all_pass-pairs (is_range limits) (λ word. refl) (length names) words in
      let columned = all_pass-pairs (is_column (named names)) (λ word. refl) (length names) words in
      rw (count_in key words (length names) few, key_is, read, ranged, columned) (fault_stays (pair_checks names (nothing_set (length names)) words) _ kind fault)

  pub update_faulty : first_fault (argument_checks limits (named names) update (key ∷ words)) ≡ Some kind
  update_faulty =
      let read = all_pass-pairs (is_readable (named names)) (λ word. refl) (length names) words in
      let ranged = all_pass-pairs (is_range limits) (λ word. refl) (length names) words in
      let columned = all_pass-pairs (is_column (named names)) (λ word. refl) (length names) words in
      rw (count_in key words (length names) few, key_is, read, ranged, columned) (fault_stays (pair_checks names (nothing_set (length names)) words) _ kind fault)

-- ---- pairs read one after the other

pub record IsUnderWay (names words rest : List (List ℕ)) (changes : List (Option Cell)) : Type 0 where
  pub ahead : (after : List (Option Cell)) → ArePairs names rest changes after → ArePairs names words (nothing_set (length names)) after
  pub checks : first_fault (pair_checks names (nothing_set (length names)) words) ≡ first_fault (pair_checks names changes rest)
  pub wide : length changes ≡ length names

pub start : (names words : List (List ℕ)) → IsUnderWay names words words (nothing_set (length names))
start names words = record { ahead = λ after are. are; checks = refl; wide = length-replicate (length names) None }

pub step : (names words : List (List ℕ)) (word : List ℕ) (rest : List (List ℕ)) (before after : List (Option Cell)) (setting : Setting) → IsUnderWay names words (word ∷ rest) before → pair_of names word ≡ Some setting → is_set before setting.0 ≡ false → after ≡ set_by before setting → IsUnderWay names words rest after
step names words word rest before after setting so_far is free after_is = subst (λ (c : List (Option Cell)). IsUnderWay names words rest c) (sym after_is) (record {
  ahead = λ last are. so_far.ahead last (record {
    settings = setting ∷ are.settings;
    pairs = λ j. is j ∷ are.pairs j;
    apart = and_from (not (is_set before setting.0)) (are_apart (set_by before setting) are.settings) (ap not free) are.apart;
    after_is = are.after_is;
  });
  checks = so_far.checks ∙ (found names before word setting is free (pair_checks names (set_by before (pair_read names word)) rest) ∙ ap (λ (s : Setting). first_fault (pair_checks names (set_by before s) rest)) (read_is names before word setting is));
  wide = length-set before setting.0 (Some setting.1) ∙ so_far.wide;
})

pub faulty : (names words : List (List ℕ)) (word : List ℕ) (rest : List (List ℕ)) (before : List (Option Cell)) (kind : FaultKind) → IsUnderWay names words (word ∷ rest) before → first_fault (one_pair_checks names before word) ≡ Some kind → first_fault (pair_checks names (nothing_set (length names)) words) ≡ Some kind
faulty names words word rest before kind so_far e = so_far.checks ∙ more_faults names before word (pair_checks names (set_by before (pair_read names word)) rest) kind e

pub ended : (names words : List (List ℕ)) (changes : List (Option Cell)) → IsUnderWay names words [] changes → ArePairs names words (nothing_set (length names)) changes
ended names words changes so_far = so_far.ahead changes (record { settings = []; pairs = refl; apart = refl; after_is = refl })

-- ---- one pair read

pub split_at : (word : List ℕ) (end : ℕ) → position is_equals word ≡ Some end → (pair_name word ≡ take end word) × (pair_value word ≡ drop (end + 1) word)
split_at word end e =
    let at = cond_some _ _ _ e in
    (ap (λ k. take k word) at.1, ap (λ k. drop (k + 1) word) at.1)

module _ (names : List (List ℕ)) (before : List (Option Cell)) (word : List ℕ) where
  pub no_pair : position is_equals word ≡ None → first_fault (one_pair_checks names before word) ≡ Some BadPair
  no_pair e = rw e refl

  pub no_column : (end : ℕ) → position is_equals word ≡ Some end → column_named names (take end word) ≡ None → first_fault (one_pair_checks names before word) ≡ Some BadColumn
  no_column end e none = rw (e, (split_at word end e).0, none) refl

  pub repeated : (end column : ℕ) → position is_equals word ≡ Some end → column_named names (take end word) ≡ Some column → is_set before column ≡ true → first_fault (one_pair_checks names before word) ≡ Some RepeatedColumn
  repeated end column e is again = rw (e, (split_at word end e).0, is, again) refl

  pub no_value : (end column : ℕ) → position is_equals word ≡ Some end → column_named names (take end word) ≡ Some column → is_set before column ≡ false → cell_of_value (drop (end + 1) word) ≡ None → first_fault (one_pair_checks names before word) ≡ Some BadNumber
  no_value end column e is free none = rw (e, (split_at word end e).0, (split_at word end e).1, is, free, none) refl

  pub is_pair : (end column : ℕ) (cell : Cell) → position is_equals word ≡ Some end → column_named names (take end word) ≡ Some column → cell_of_value (drop (end + 1) word) ≡ Some cell → pair_of names word ≡ Some (column, cell)
  is_pair end column cell e is value = rw (e, (split_at word end e).0, (split_at word end e).1, is, value) refl

-- ---- the pair at a place

module _ (names : List (List ℕ)) (words : List (Bor (List ℕ))) (i : ℕ) (d : Bor (List ℕ)) (before : List (Option Cell)) (within : i < length words) (so_far : IsUnderWay names (texts words) (texts (drop i words)) before) where
  at_place : IsUnderWay names (texts words) ((get_or words i d).now ∷ texts (drop (i + 1) words)) before
  at_place = subst (λ (slices : List (Bor (List ℕ))). IsUnderWay names (texts words) (texts slices) before) (drop-cons words i d within ∙ ap (λ k. get_or words i d ∷ drop k words) (sym (add-one i))) so_far

  pub step_at : (setting : Setting) (after : List (Option Cell)) → pair_of names (get_or words i d).now ≡ Some setting → is_set before setting.0 ≡ false → after ≡ set_by before setting → IsUnderWay names (texts words) (texts (drop (i + 1) words)) after
  step_at setting after is free after_is = step names (texts words) (get_or words i d).now (texts (drop (i + 1) words)) before after setting at_place is free after_is

  pub faulty_at : (kind : FaultKind) → first_fault (one_pair_checks names before (get_or words i d).now) ≡ Some kind → first_fault (pair_checks names (nothing_set (length names)) (texts words)) ≡ Some kind
  faulty_at kind e = faulty names (texts words) (get_or words i d).now (texts (drop (i + 1) words)) before kind at_place e
