-- Words that are printed: their bytes, and how they are read again.
use Rattle.std.proofs.Common.{◌≡◌, ℕ, ◌<◌, ◌≤◌, ◌^◌, Bool, true, false, ◌&&◌, nat_lt, nat_le, leb, List, [], ◌∷◌, length, map, get_or, Option, Some, None, option_map, decimal, codes, bytes_eq, refl, sym, ap, subst, ◌∙◌, arith}
use Rattle.std.specs.Prelude.{All}
use Rattle.std.specs.List.{AllByRecursion, list_all}
use Rattle.std.specs.Char.{is_ascii_digit, digit_value}
use Rattle.std.specs.Str.Parse.{AllDigits, digits_value}
use Rattle.std.proofs.lemmas.Bool.{and_from, and_parts, cond-true, cond-false, le-leb, lt-ltb, ltb-true, leb-true, ne_eqb}
use Rattle.std.proofs.lemmas.Fmt.{decimal_is_IsNumeral, length-decimal-le}
use Rattle.std.proofs.lemmas.List.Elements.{All-head, All-tail}
use Rattle.std.proofs.lemmas.Str.Parse.{digit_from_value}
use Rattle.lst_model.specs.Cells.{Cell}
use Rattle.lst_script.specs.Numbers.{is_number, number_of, cell_of, keeps_column, change_of}
use Rattle.lst_script.specs.Table.{Form, phase, merge, begin, as_of, get, insert, update, delete, sum, count, scan, find_keys, commit, abort, name_of}
use Rattle.lst_script.specs.Laws.{text_of}
use Rattle.lst_script.specs.Columns.{Columns, numbered, named}
use Rattle.lst_script.specs.Canonical.{cell_word, change_word}
use Rattle.lst_script.specs.Printed.{IsCellWord, IsChangeWord}

-- ---- words

-- each byte is above the space's, and there are 1 to 37: as many as a pair of a name and a number has
pub record IsPlain (word : List ℕ) : Type 0 where
  pub some : 0 < length word
  pub few : length word ≤ 37
  pub above : list_all (λ byte. nat_lt 32 byte) word ≡ true

pub digit_above : (c : ℕ) → digit_value c < 10 → nat_lt 32 c ≡ true
digit_above c small = lt-ltb 32 c (omega (arith, (digit_from_value c small).0))

pub digits_above : (ds : List ℕ) → AllDigits 10 ds → list_all (λ byte. nat_lt 32 byte) ds ≡ true
digits_above [] digits = refl
digits_above (c ∷ cs) digits = and_from (nat_lt 32 c) (list_all (λ byte. nat_lt 32 byte) cs) (digit_above c digits.0) (digits_above cs digits.1)

pub digits_are : (ds : List ℕ) → AllDigits 10 ds → list_all is_ascii_digit ds ≡ true
digits_are [] digits = refl
digits_are (c ∷ cs) digits =
    let range = digit_from_value c digits.0 in
    and_from (is_ascii_digit c) (list_all is_ascii_digit cs) (and_from (leb 48 c) (leb c 57) (le-leb 48 c range.0) (le-leb c 57 range.1)) (digits_are cs digits.1)

pub few_digits : (n : ℕ) → n < 2 ^ 64 → length (decimal n) ≤ 20
few_digits n small = length-decimal-le 20 n (omega arith) (omega arith) small

pub plain_number : (n : ℕ) → n < 2 ^ 64 → IsPlain (decimal n)
plain_number n small =
    let numeral = decimal_is_IsNumeral n small in
    record { some = numeral.0.0; few = omega (arith, few_digits n small); above = digits_above (decimal n) numeral.0.1 }

-- a number is read as it is written
pub number_again : (n : ℕ) → n < 2 ^ 64 → number_of (decimal n) ≡ Some n
number_again n small =
    let numeral = decimal_is_IsNumeral n small in
    let fits : nat_lt (digits_value 10 (decimal n)) (2 ^ 64) ≡ true = lt-ltb _ _ (subst (λ (v : ℕ). v < 2 ^ 64) (sym numeral.1) small) in
    let yes : is_number (decimal n) ≡ true = and_from _ _ (lt-ltb _ _ numeral.0.0) (and_from _ _ (le-leb _ _ (few_digits n small)) (and_from _ _ (digits_are (decimal n) numeral.0.1) fits)) in
    cond-true _ _ _ yes ∙ ap (λ v. Some v) numeral.1

-- a number doesn't begin with another byte than a digit
pub first_digit : (ds : List ℕ) → 0 < length ds → AllDigits 10 ds → (48 ≤ get_or ds 0 0) × (get_or ds 0 0 ≤ 57)
first_digit [] some digits = absurd (omega arith)
first_digit (c ∷ cs) some digits = digit_from_value c digits.0

pub keeps_none : (ds : List ℕ) → 0 < length ds → AllDigits 10 ds → keeps_column ds ≡ false
keeps_none [] some digits = absurd (omega arith)
keeps_none (c ∷ cs) some digits =
    let range = digit_from_value c digits.0 in
    ap (λ (b : Bool). b && bytes_eq cs []) (ne_eqb c 95 (λ e. absurd (omega (arith, range.1))))

module _ (m : ℕ) where
  pub cell_again : (cell : Cell) → (IsCellWord (numbered m)) cell → cell_of (cell_word cell) ≡ Some cell
  cell_again None numbers = absurd numbers
  cell_again (Some n) numbers = ap (option_map (λ m. Some m)) (number_again n numbers)

  pub change_again : (change : Option Cell) → (IsChangeWord (numbered m)) change → change_of (change_word change) ≡ Some change
  change_again None numbers = refl
  change_again (Some None) numbers = absurd numbers
  change_again (Some (Some n)) numbers =
      let numeral = decimal_is_IsNumeral n numbers in
      cond-false _ _ _ (keeps_none (decimal n) numeral.0.0 numeral.0.1) ∙ ap (λ o. option_map (λ c. Some c) o) (cell_again (Some n) numbers)

  pub cells_again : (row : List Cell) → All (IsCellWord (numbered m)) row → map cell_of (map cell_word row) ≡ map (λ cell. Some cell) row
  cells_again [] numbers = refl
  cells_again (cell ∷ row) numbers =
      ap (λ o. o ∷ map cell_of (map cell_word row)) (cell_again cell (All-head (IsCellWord (numbered m)) cell row numbers))
      ∙ ap (λ os. Some cell ∷ os) (cells_again row (All-tail (IsCellWord (numbered m)) cell row numbers))

  pub changes_again : (patch : List (Option Cell)) → All (IsChangeWord (numbered m)) patch → map change_of (map change_word patch) ≡ map (λ change. Some change) patch
  changes_again [] numbers = refl
  changes_again (change ∷ patch) numbers =
      ap (λ o. o ∷ map change_of (map change_word patch)) (change_again change (All-head (IsChangeWord (numbered m)) change patch numbers))
      ∙ ap (λ os. Some change ∷ os) (changes_again patch (All-tail (IsChangeWord (numbered m)) change patch numbers))

-- ---- the words of a line are plain

-- the same as a test
abbrev is_plain : List ℕ → Bool
is_plain word = nat_lt 0 (length word) && (nat_le (length word) 37 && list_all (λ byte. nat_lt 32 byte) word)

pub plain_from : (word : List ℕ) → is_plain word ≡ true → IsPlain word
plain_from word e =
    let one = and_parts (nat_lt 0 (length word)) (nat_le (length word) 37 && list_all (λ byte. nat_lt 32 byte) word) e in
    let two = and_parts (nat_le (length word) 37) (list_all (λ byte. nat_lt 32 byte) word) one.1 in
    record { some = ltb-true 0 (length word) one.0; few = leb-true (length word) 37 two.0; above = two.1 }

pub name_plain : (form : Form) → IsPlain (name_of form)
name_plain phase = plain_from (codes "phase") refl
name_plain merge = plain_from (codes "merge") refl
name_plain begin = plain_from (codes "begin") refl
name_plain as_of = plain_from (codes "asof") refl
name_plain get = plain_from (codes "get") refl
name_plain insert = plain_from (codes "insert") refl
name_plain update = plain_from (codes "update") refl
name_plain delete = plain_from (codes "delete") refl
name_plain sum = plain_from (codes "sum") refl
name_plain count = plain_from (codes "count") refl
name_plain scan = plain_from (codes "scan") refl
name_plain find_keys = plain_from (codes "find") refl
name_plain commit = plain_from (codes "commit") refl
name_plain abort = plain_from (codes "abort") refl

pub cell_plain : (columns : Columns) (cell : Cell) → IsCellWord columns cell → IsPlain (cell_word cell)
cell_plain (numbered m) None numbers = absurd numbers
cell_plain (numbered m) (Some n) numbers = plain_number n numbers
cell_plain (named names) None numbers = plain_from (codes "null") refl
cell_plain (named names) (Some n) numbers = plain_number n numbers

pub change_plain : (columns : Columns) (change : Option Cell) → IsChangeWord columns change → IsPlain (change_word change)
change_plain columns None numbers = plain_from (codes "_") refl
change_plain columns (Some cell) numbers = cell_plain columns cell numbers

-- plain words, no more than so many
pub record ArePlain (most : ℕ) (words : List (List ℕ)) : Type 0 where
  pub each : AllByRecursion IsPlain words
  pub few : length words ≤ most

pub each_plain : {X : Type 0} (text_of : X → List ℕ) (P : X → Type 0) → ((x : X) → P x → IsPlain (text_of x)) → (xs : List X) → All P xs → AllByRecursion IsPlain (map text_of xs)
each_plain text_of P plain [] all = tt
each_plain text_of P plain (x ∷ xs) all = (plain x (All-head P x xs all), each_plain text_of P plain xs (All-tail P x xs all))
