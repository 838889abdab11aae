-- Names, and pairs of a name and a cell, that are printed are read again.
use Rattle.std.proofs.Common.{◌≡◌, ℕ, zero, suc, ◌+◌, ◌<◌, ◌≤◌, Bool, true, false, ◌&&◌, ◌||◌, eqb, ltb, leb, nat_lt, nat_le, List, [], ◌∷◌, ◌++◌, length, map, take, drop, get_or, set, is_some, inl, inr, Option, Some, None, decimal, codes, bytes_eq, refl, sym, ap, subst, ◌∙◌, append_assoc, add-one, arith}
use Rattle.std.specs.Prelude.{slice_get, All}
use Rattle.std.specs.List.{AllByRecursion, list_all, list_any, position_or_len}
use Rattle.std.specs.Char.{is_ascii_digit}
use Rattle.std.proofs.lemmas.Bool.{and_parts, and_from, or_cases, lt-ltb, leb-true, eqb-true, ne_eqb, false≢true}
use Rattle.std.proofs.lemmas.List.{length-append}
use Rattle.std.proofs.lemmas.List.Elements.{All-nil, All-cons, All-head, All-tail}
use Rattle.std.proofs.lemmas.List.Folds.{list_all-append}
use Rattle.std.proofs.lemmas.Slice.Eq.{bytes_eq-Decides}
use Rattle.lst_model.specs.Cells.{Cell}
use Rattle.lst_names.specs.Names.{is_letter, is_name_byte, is_name, are_different, are_names}
use Rattle.lst_script.specs.Numbers.{number_of}
use Rattle.lst_script.specs.Columns.{named, column_named}
use Rattle.lst_script.specs.Pairs.{Setting, is_equals, has_equals, pair_name, pair_value, cell_of_value, pair_of, is_set, set_by, are_apart, all_set, nothing_set, filled}
use Rattle.lst_script.specs.Grammar.{AreNamedCells, AreNamedChanges}
use Rattle.lst_script.specs.Canonical.{cell_word, cell_pairs, change_pairs}
use Rattle.lst_script.specs.Printed.{IsCellWord, IsChangeWord}
use Rattle.lst_script.proofs.Plain.{IsPlain, cell_plain, number_again, few_digits}
use Rattle.lst_script.proofs.NamesAgain.{column_again}

-- ---- the bytes of a name

-- a byte of a name is above the space's, and isn't =
byte_is : (byte : ℕ) → is_name_byte byte ≡ true → (nat_lt 32 byte ≡ true) × (is_equals byte ≡ false)
byte_is byte e =
    elim (or_cases (is_letter byte) (is_ascii_digit byte || eqb byte 95) e) [
      | inl letter ↦
          let low = leb-true 97 byte (and_parts (leb 97 byte) (leb byte 122) letter).0 in
          (lt-ltb 32 byte (omega arith), ne_eqb byte 61 (λ same. absurd (omega (arith, low))))
      | inr other ↦ elim (or_cases (is_ascii_digit byte) (eqb byte 95) other) [
        | inl digit ↦
            let parts = and_parts (leb 48 byte) (leb byte 57) digit in
            let low = leb-true 48 byte parts.0 in
            let high = leb-true byte 57 parts.1 in
            (lt-ltb 32 byte (omega arith), ne_eqb byte 61 (λ same. absurd (omega (arith, high))))
        | inr line ↦
            let is = eqb-true byte 95 line in
            (lt-ltb 32 byte (omega (arith, is)), ne_eqb byte 61 (λ same. absurd (omega (arith, is))))
      ]
    ]

bytes_above : (word : List ℕ) → list_all is_name_byte word ≡ true → list_all (λ byte. nat_lt 32 byte) word ≡ true
bytes_above [] e = refl
bytes_above (c ∷ cs) e =
    let parts = and_parts (is_name_byte c) (list_all is_name_byte cs) e in
    and_from (nat_lt 32 c) (list_all (λ byte. nat_lt 32 byte) cs) (byte_is c parts.0).0 (bytes_above cs parts.1)

-- the = of a pair is the first one
first_equals : (name value : List ℕ) → list_all is_name_byte name ≡ true → position_or_len is_equals (name ++ 61 ∷ value) ≡ length name
first_equals [] value e = refl
first_equals (c ∷ cs) value e =
    let parts = and_parts (is_name_byte c) (list_all is_name_byte cs) e in
    rw (byte_is c parts.0).1 (omega (arith, first_equals cs value parts.1))

take_front : (xs ys : List ℕ) → take (length xs) (xs ++ ys) ≡ xs
take_front [] ys = refl
take_front (x ∷ xs) ys = ap (λ zs. x ∷ zs) (take_front xs ys)

drop_front : (xs ys : List ℕ) → drop (length xs) (xs ++ ys) ≡ ys
drop_front [] ys = refl
drop_front (x ∷ xs) ys = drop_front xs ys

record IsFormed (name : List ℕ) : Type 0 where
  some : 0 < length name
  few : length name ≤ 16
  bytes : list_all is_name_byte name ≡ true

formed : (name : List ℕ) → is_name name ≡ true → IsFormed name
formed [] e = absurd cc
formed (c ∷ cs) e =
    let parts = and_parts (is_letter c) (nat_le (length (c ∷ cs)) 16 && list_all is_name_byte (c ∷ cs)) e in
    let rest = and_parts (nat_le (length (c ∷ cs)) 16) (list_all is_name_byte (c ∷ cs)) parts.1 in
    record { some = omega arith; few = leb-true (length (c ∷ cs)) 16 rest.0; bytes = rest.1 }

pub plain_name : (name : List ℕ) → is_name name ≡ true → IsPlain name
plain_name name e =
    let is = formed name e in
    record { some = is.some; few = omega (arith, is.few); above = bytes_above name is.bytes }

-- ---- one pair

module _ (name value : List ℕ) (is : is_name name ≡ true) where
  pub pair_parts : (has_equals (name ++ 61 ∷ value) ≡ true) × (pair_name (name ++ 61 ∷ value) ≡ name) × (pair_value (name ++ 61 ∷ value) ≡ value)
  pair_parts =
      let at = first_equals name value (formed name is).bytes in
      let size : length (name ++ 61 ∷ value) ≡ length name + suc (length value) = length-append name (61 ∷ value) in
      let inside : ltb (length name) (length (name ++ 61 ∷ value)) ≡ true = lt-ltb (length name) (length (name ++ 61 ∷ value)) (omega (arith, size)) in
      let after : drop (length name + 1) (name ++ 61 ∷ value) ≡ value = behind name in (
        rw (at, inside) refl,
        ap (λ k. take k (name ++ 61 ∷ value)) at ∙ take_front name (61 ∷ value),
        ap (λ k. drop (k + 1) (name ++ 61 ∷ value)) at ∙ after,
      )
    where
      further : (xs : List ℕ) → drop (suc (length xs)) (xs ++ 61 ∷ value) ≡ value
      further [] = refl
      further (x ∷ xs) = further xs

      behind : (xs : List ℕ) → drop (length xs + 1) (xs ++ 61 ∷ value) ≡ value
      behind xs = ap (λ k. drop k (xs ++ 61 ∷ value)) (add-one (length xs)) ∙ further xs

pub no_null : (word : List ℕ) (n : ℕ) → number_of word ≡ Some n → bytes_eq word (codes "null") ≡ false
no_null word n is = by (bytes_eq word (codes "null")) refl
  where
    by : (b : Bool) → bytes_eq word (codes "null") ≡ b → b ≡ false
    by true e =
        let same : word ≡ codes "null" = (bytes_eq-Decides word (codes "null")).0 e in
        let none : number_of (codes "null") ≡ Some n = ap number_of (sym same) ∙ is in
        absurd cc
    by false e = refl

pub joined_plain : (name value : List ℕ) → is_name name ≡ true → IsPlain value → length value ≤ 20 → IsPlain (name ++ 61 ∷ value)
joined_plain name value is of_value few =
    let of_name = formed name is in
    let size : length (name ++ 61 ∷ value) ≡ length name + suc (length value) = length-append name (61 ∷ value) in
    record {
      some = omega (arith, size);
      few = omega (arith, size, of_name.few, few);
      above = list_all-append (λ byte. nat_lt 32 byte) name (61 ∷ value) ∙ and_from (list_all (λ byte. nat_lt 32 byte) name) (list_all (λ byte. nat_lt 32 byte) value) (bytes_above name of_name.bytes) of_value.above;
    }

module _ (names : List (List ℕ)) where
  value_again : (cell : Cell) → IsCellWord (named names) cell → cell_of_value (cell_word cell) ≡ Some cell
  value_again None small = refl
  value_again (Some n) small =
      let read = number_again n small in
      rw (no_null (decimal n) n read, read) refl

  pair_again : (name : List ℕ) (column : ℕ) (cell : Cell) → is_name name ≡ true → column_named names name ≡ Some column → IsCellWord (named names) cell → pair_of names (name ++ 61 ∷ cell_word cell) ≡ Some (column, cell)
  pair_again name column cell is place small =
      let parts = pair_parts name (cell_word cell) is in
      rw (parts.0, parts.1, parts.2, place, value_again cell small) refl

  pair_plain : (name : List ℕ) (cell : Cell) → is_name name ≡ true → IsCellWord (named names) cell → IsPlain (name ++ 61 ∷ cell_word cell)
  pair_plain name cell is small = joined_plain name (cell_word cell) is (cell_plain (named names) cell small) (cell_few cell small)
    where
      cell_few : (cell : Cell) → IsCellWord (named names) cell → length (cell_word cell) ≤ 20
      cell_few None small = omega arith
      cell_few (Some n) small = few_digits n small

-- ---- pairs of a patch

abbrev settings_of : ℕ → List (Option Cell) → List Setting
settings_of column [] = []
settings_of column (None ∷ patch) = settings_of (suc column) patch
settings_of column (Some cell ∷ patch) = (column, cell) ∷ settings_of (suc column) patch

abbrev set_cells : List Cell → List (Option Cell)
set_cells [] = []
set_cells (None ∷ row) = None ∷ set_cells row
set_cells (Some n ∷ row) = Some (Some n) ∷ set_cells row

-- the names from a column on, each in the form of a name and at its place
abbrev AreAt : List (List ℕ) → ℕ → List (List ℕ) → Type 0
AreAt all column [] = Unit {0}
AreAt all column (name ∷ names) = (is_name name ≡ true) × (column_named all name ≡ Some column) × AreAt all (suc column) names

module _ (all : List (List ℕ)) where
  read_pairs : (column : ℕ) (names : List (List ℕ)) (patch : List (Option Cell)) → AreAt all column names → length patch ≡ length names → All (IsChangeWord (named all)) patch → map (pair_of all) (change_pairs names patch) ≡ map (λ s. Some s) (settings_of column patch)
  read_pairs column [] [] at many numbers = refl
  read_pairs column [] (change ∷ patch) at many numbers = absurd (omega (arith, many))
  read_pairs column (name ∷ names) [] at many numbers = refl
  read_pairs column (name ∷ names) (None ∷ patch) at many numbers = read_pairs (suc column) names patch at.2 (omega (arith, many)) (All-tail (IsChangeWord (named all)) None patch numbers)
  read_pairs column (name ∷ names) (Some cell ∷ patch) at many numbers =
      let first = pair_again all name column cell at.0 at.1 (All-head (IsChangeWord (named all)) (Some cell) patch numbers) in
      let rest = read_pairs (suc column) names patch at.2 (omega (arith, many)) (All-tail (IsChangeWord (named all)) (Some cell) patch numbers) in
      λ j. first j ∷ rest j

  pairs_plain : (column : ℕ) (names : List (List ℕ)) (patch : List (Option Cell)) → AreAt all column names → All (IsChangeWord (named all)) patch → AllByRecursion IsPlain (change_pairs names patch) × (length (change_pairs names patch) ≤ length names)
  pairs_plain column [] patch at numbers = (tt, omega arith)
  pairs_plain column (name ∷ names) [] at numbers = (tt, omega arith)
  pairs_plain column (name ∷ names) (None ∷ patch) at numbers =
      let rest = pairs_plain (suc column) names patch at.2 (All-tail (IsChangeWord (named all)) None patch numbers) in
      (rest.0, omega (arith, rest.1))
  pairs_plain column (name ∷ names) (Some cell ∷ patch) at numbers =
      let rest = pairs_plain (suc column) names patch at.2 (All-tail (IsChangeWord (named all)) (Some cell) patch numbers) in
      ((pair_plain all name cell at.0 (All-head (IsChangeWord (named all)) (Some cell) patch numbers), rest.0), omega (arith, rest.1))

-- ---- what the settings of a patch are

at_end : (front : List (Option Cell)) (x : Option Cell) (rest : List (Option Cell)) → get_or (front ++ x ∷ rest) (length front) None ≡ x
at_end [] x rest = refl
at_end (y ∷ front) x rest = at_end front x rest

set_end : (front : List (Option Cell)) (x y : Option Cell) (rest : List (Option Cell)) → set (front ++ x ∷ rest) (length front) y ≡ front ++ y ∷ rest
set_end [] x y rest = refl
set_end (z ∷ front) x y rest = ap (λ zs. z ∷ zs) (set_end front x y rest)

push_more : (front : List (Option Cell)) (x : Option Cell) → length (front ++ x ∷ []) ≡ suc (length front)
push_more [] x = refl
push_more (y ∷ front) x = ap suc (push_more front x)

settle : (front patch : List (Option Cell)) → (are_apart (front ++ nothing_set (length patch)) (settings_of (length front) patch) ≡ true) × (all_set (front ++ nothing_set (length patch)) (settings_of (length front) patch) ≡ front ++ patch)
settle front [] = (refl, refl)
settle front (None ∷ patch) =
    let later = settle (front ++ None ∷ []) patch in
    let base : (front ++ None ∷ []) ++ nothing_set (length patch) ≡ front ++ nothing_set (length (None ∷ patch)) = append_assoc front (None ∷ []) (nothing_set (length patch)) in
    let size = push_more front None in (
      (λ j. are_apart (sym base j) (settings_of (sym size j) patch)) ∙ later.0,
      (λ j. all_set (sym base j) (settings_of (sym size j) patch)) ∙ (later.1 ∙ append_assoc front (None ∷ []) patch),
    )
settle front (Some cell ∷ patch) =
    let later = settle (front ++ Some cell ∷ []) patch in
    let base : (front ++ Some cell ∷ []) ++ nothing_set (length patch) ≡ front ++ Some cell ∷ nothing_set (length patch) = append_assoc front (Some cell ∷ []) (nothing_set (length patch)) in
    let put : set_by (front ++ nothing_set (length (Some cell ∷ patch))) (length front, cell) ≡ front ++ Some cell ∷ nothing_set (length patch) = set_end front None (Some cell) (nothing_set (length patch)) in
    let free : is_set (front ++ nothing_set (length (Some cell ∷ patch))) (length front) ≡ false = ap (λ o. is_some o) (at_end front None (nothing_set (length patch))) in
    let size = push_more front (Some cell) in (
      rw free ((λ j. are_apart ((put ∙ sym base) j) (settings_of (sym size j) patch)) ∙ later.0),
      (λ j. all_set ((put ∙ sym base) j) (settings_of (sym size j) patch)) ∙ (later.1 ∙ append_assoc front (Some cell ∷ []) patch),
    )

any_settings : (column : ℕ) (patch : List (Option Cell)) → list_any is_some patch ≡ true → 0 < length (settings_of column patch)
any_settings column [] e = absurd (false≢true e)
any_settings column (None ∷ patch) e = any_settings (suc column) patch e
any_settings column (Some cell ∷ patch) e = omega arith

unset : (row : List Cell) → filled (set_cells row) ≡ row
unset [] = refl
unset (None ∷ row) = ap (λ (cells : List Cell). None ∷ cells) (unset row)
unset (Some n ∷ row) = ap (λ (cells : List Cell). Some n ∷ cells) (unset row)

as_many : (row : List Cell) → length (set_cells row) ≡ length row
as_many [] = refl
as_many (None ∷ row) = ap suc (as_many row)
as_many (Some n ∷ row) = ap suc (as_many row)

same_pairs : (names : List (List ℕ)) (row : List Cell) → cell_pairs names row ≡ change_pairs names (set_cells row)
same_pairs [] row = refl
same_pairs (name ∷ names) [] = refl
same_pairs (name ∷ names) (None ∷ row) = same_pairs names row
same_pairs (name ∷ names) (Some n ∷ row) = ap (λ (ws : List (List ℕ)). (name ++ 61 ∷ decimal n) ∷ ws) (same_pairs names row)

cells_said : (names : List (List ℕ)) (row : List Cell) → All (IsCellWord (named names)) row → All (IsChangeWord (named names)) (set_cells row)
cells_said names [] numbers = All-nil (IsChangeWord (named names))
cells_said names (None ∷ row) numbers = All-cons (IsChangeWord (named names)) None (set_cells row) tt (cells_said names row (All-tail (IsCellWord (named names)) None row numbers))
cells_said names (Some n ∷ row) numbers = All-cons (IsChangeWord (named names)) (Some (Some n)) (set_cells row) (All-head (IsCellWord (named names)) (Some n) row numbers) (cells_said names row (All-tail (IsCellWord (named names)) (Some n) row numbers))

-- ---- the names of a table

there : (names : List (List ℕ)) (c : ℕ) → c < length names → slice_get names c ≡ Some (get_or names c [])
there [] c within = absurd (omega (arith, within))
there (name ∷ names) zero within = refl
there (name ∷ names) (suc c) within = there names c (omega (arith, within))

module _ (count : ℕ) (names : List (List ℕ)) (ordered : are_names count names ≡ true) where
  pub names_many : length names ≡ count
  names_many = eqb-true (length names) count (and_parts (eqb (length names) count) (list_all is_name names && are_different names) ordered).0

  pub names_formed : list_all is_name names ≡ true
  names_formed = (and_parts (list_all is_name names) (are_different names) (and_parts (eqb (length names) count) (list_all is_name names && are_different names) ordered).1).0

  differ : are_different names ≡ true
  differ = (and_parts (list_all is_name names) (are_different names) (and_parts (eqb (length names) count) (list_all is_name names && are_different names) ordered).1).1

  place_all : (column : ℕ) (rest : List (List ℕ)) → list_all is_name rest ≡ true → ((i : ℕ) (name : List ℕ) → slice_get rest i ≡ Some name → column_named names name ≡ Some (column + i)) → AreAt names column rest
  place_all column [] are at = tt
  place_all column (name ∷ rest) are at =
      let parts = and_parts (is_name name) (list_all is_name rest) are in
      let here : column + 0 ≡ column = omega arith in (
        parts.0,
        at 0 name refl ∙ ap (λ k. Some k) here,
        place_all (suc column) rest parts.1 (λ i other e.
            let same : column + suc i ≡ suc column + i = omega arith in
            at (suc i) other e ∙ ap (λ k. Some k) same),
      )

  all_at : AreAt names 0 names
  all_at = place_all 0 names names_formed (λ i name e.
      let same : i ≡ 0 + i = omega arith in
      column_again names i name differ e ∙ ap (λ k. Some k) same)

  each_name : (rest : List (List ℕ)) → list_all is_name rest ≡ true → AllByRecursion IsPlain rest
  each_name [] are = tt
  each_name (name ∷ rest) are =
      let parts = and_parts (is_name name) (list_all is_name rest) are in
      (plain_name name parts.0, each_name rest parts.1)

  pub names_plain : AllByRecursion IsPlain names
  names_plain = each_name names names_formed

  nth_plain : (rest : List (List ℕ)) (c : ℕ) → AllByRecursion IsPlain rest → c < length rest → IsPlain (get_or rest c [])
  nth_plain [] c are within = absurd (omega (arith, within))
  nth_plain (name ∷ rest) zero are within = are.0
  nth_plain (name ∷ rest) (suc c) are within = nth_plain rest c are.1 (omega (arith, within))

  pub name_is_plain : (column : ℕ) → column < count → IsPlain (get_or names column [])
  name_is_plain column within = nth_plain names column names_plain (omega (arith, within, names_many))

  pub name_is_column : (column : ℕ) → column < count → column_named names (get_or names column []) ≡ Some column
  name_is_column column within = column_again names column (get_or names column []) differ (there names column (omega (arith, within, names_many)))

  pub patch_pairs_plain : (patch : List (Option Cell)) → All (IsChangeWord (named names)) patch → AllByRecursion IsPlain (change_pairs names patch) × (length (change_pairs names patch) ≤ count)
  patch_pairs_plain patch numbers =
      let all = pairs_plain names 0 names patch all_at numbers in
      (all.0, omega (arith, all.1, names_many))

  pub row_pairs_plain : (row : List Cell) → All (IsCellWord (named names)) row → AllByRecursion IsPlain (cell_pairs names row) × (length (cell_pairs names row) ≤ count)
  row_pairs_plain row numbers = subst (λ (ws : List (List ℕ)). AllByRecursion IsPlain ws × (length ws ≤ count)) (sym (same_pairs names row)) (patch_pairs_plain (set_cells row) (cells_said names row numbers))

  module _ (patch : List (Option Cell)) (many : length patch ≡ count) (numbers : All (IsChangeWord (named names)) patch) where
    wide : length patch ≡ length names
    wide = many ∙ sym names_many

    settled : (are_apart (nothing_set (length names)) (settings_of 0 patch) ≡ true) × (all_set (nothing_set (length names)) (settings_of 0 patch) ≡ patch)
    settled = subst (λ n. (are_apart (nothing_set n) (settings_of 0 patch) ≡ true) × (all_set (nothing_set n) (settings_of 0 patch) ≡ patch)) wide (settle [] patch)

  pub patch_pairs_again : (patch : List (Option Cell)) → length patch ≡ count → list_any is_some patch ≡ true → All (IsChangeWord (named names)) patch → AreNamedChanges names (change_pairs names patch) patch
  patch_pairs_again patch many sets numbers =
      let all = settled patch many numbers in
      let few = pairs_plain names 0 names patch all_at numbers in
      record {
        settings = settings_of 0 patch;
        are = record { pairs = read_pairs names 0 names patch all_at (wide patch many numbers) numbers; apart = all.0; few = few.1 };
        patch_is = sym all.1;
        sets = any_settings 0 patch sets;
      }

  pub row_pairs_again : (row : List Cell) → length row ≡ count → All (IsCellWord (named names)) row → AreNamedCells names (cell_pairs names row) row
  row_pairs_again row many numbers =
      let said = cells_said names row numbers in
      let same_size : length (set_cells row) ≡ count = as_many row ∙ many in
      let all = settled (set_cells row) same_size said in
      let few = pairs_plain names 0 names (set_cells row) all_at said in
      subst (λ (ws : List (List ℕ)). AreNamedCells names ws row) (sym (same_pairs names row)) (record {
        settings = settings_of 0 (set_cells row);
        are = record { pairs = read_pairs names 0 names (set_cells row) all_at (wide (set_cells row) same_size said) said; apart = all.0; few = few.1 };
        row_is = sym (ap filled all.1 ∙ unset row);
      })
