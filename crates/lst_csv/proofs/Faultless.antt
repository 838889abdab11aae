-- Records without a fault: names of columns, and rows of 64 bits.
use Rattle.std.proofs.Common.{◌≡◌, ℕ, ◌+◌, ◌<◌, ◌^◌, Bool, true, false, not, ◌&&◌, ◌==◌, List, [], ◌∷◌, length, map, drop, nat_lt, nat_le, Option, Some, None, unwrap_or, option_map, if◌then◌else◌, bytes_eq, codes, refl, arith}
use Rattle.std.specs.List.{list_all, list_any, AllByRecursion}
use Rattle.std.specs.Char.{is_ascii_digit}
use Rattle.std.specs.Str.Parse.{digits_value}
use Rattle.std.proofs.lemmas.Bool.{and_parts, ltb-true, eqb-true}
use Rattle.std.proofs.lemmas.List.{length-map}
use Rattle.lst_names.specs.Names.{are_names}
use Rattle.lst_script.specs.Numbers.{is_number, number_of}
use Rattle.lst_csv.specs.declared.faults.TableFault.{TableFault}
use Rattle.lst_csv.specs.declared.faults.TableFault.TheVariants.{BadHeader, BadLength, BadField, RepeatedKey, TooManyRows}
use Rattle.lst_csv.specs.Tables.{field_at, cell_of_field, key_of, row_of_record, is_header, are_fields, record_fault, place_too_far, faulty_or, first_faulty, table_fault, names_of, rows_of}
use Rattle.lst_csv.specs.Laws.{IsCell64, IsRow}

-- ---- fields

number_low : (word : List ℕ) → unwrap_or (number_of word) 0 < 2 ^ 64
number_low word = at (is_number word) refl
  where
    at : (b : Bool) → is_number word ≡ b → unwrap_or (if b then Some (digits_value 10 word) else None) 0 < 2 ^ 64
    at true is =
        let one = and_parts (nat_lt 0 (length word)) (nat_le (length word) 20 && (list_all is_ascii_digit word && nat_lt (digits_value 10 word) (2 ^ 64))) is in
        let two = and_parts (nat_le (length word) 20) (list_all is_ascii_digit word && nat_lt (digits_value 10 word) (2 ^ 64)) one.1 in
        ltb-true (digits_value 10 word) (2 ^ 64) (and_parts (list_all is_ascii_digit word) (nat_lt (digits_value 10 word) (2 ^ 64)) two.1).1
    at false is = omega arith

cell_low : (field : List ℕ) → IsCell64 (unwrap_or (cell_of_field field) None)
cell_low [] = tt
cell_low (byte ∷ bytes) = at (number_of (byte ∷ bytes)) (number_low (byte ∷ bytes))
  where
    at : (o : Option ℕ) → unwrap_or o 0 < 2 ^ 64 → IsCell64 (unwrap_or (option_map (λ n. Some n) o) None)
    at None low = tt
    at (Some n) low = low

cells_low : (fields : List (List ℕ)) → AllByRecursion IsCell64 (map (λ field. unwrap_or (cell_of_field field) None) fields)
cells_low [] = tt
cells_low (field ∷ fields) = (cell_low field, cells_low fields)

-- ---- rows

cells_wide : (columns : ℕ) (fields : List (List ℕ)) → length fields ≡ columns + 1 → length (drop 1 fields) ≡ columns
cells_wide columns [] e = absurd (omega (arith, e))
cells_wide columns (field ∷ fields) e = omega (arith, e)

row_fits : (columns : ℕ) (fields : List (List ℕ)) → length fields ≡ columns + 1 → IsRow columns (row_of_record fields)
row_fits columns fields wide = record {
  key = number_low (field_at fields 0);
  width = (let same = length-map (drop 1 fields) (λ field. unwrap_or (cell_of_field field) None) in let count = cells_wide columns fields wide in omega (arith, same, count));
  cells = cells_low (drop 1 fields);
}

long_enough : (far wide are again : Bool) → (if far then Some TooManyRows else if not wide then Some BadLength else if not are then Some BadField else if again then Some RepeatedKey else None) ≡ None → wide ≡ true
long_enough true wide are again e = absurd (cc)
long_enough false true are again e = refl
long_enough false false are again e = absurd (cc)

neither : (place : ℕ) (fault : Option TableFault) (later : Option (ℕ × TableFault)) → faulty_or place fault later ≡ None → (fault ≡ None) × (later ≡ None)
neither place None later e = (refl, e)
neither place (Some kind) later e = absurd (cc)

rows_fit : (columns place : ℕ) (keys : List ℕ) (records : List (List (List ℕ))) → first_faulty columns place keys records ≡ None → AllByRecursion (IsRow columns) (map row_of_record records)
rows_fit columns place keys [] e = tt
rows_fit columns place keys (fields ∷ records) e =
    let none = neither place (record_fault columns place keys fields) (first_faulty columns (place + 1) (key_of fields ∷ keys) records) e in
    let wide = eqb-true (length fields) (columns + 1) (long_enough (place == place_too_far) (length fields == columns + 1) (are_fields fields) (list_any (λ key. key == key_of fields) keys) none.0) in
    (row_fits columns fields wide, rows_fit columns (place + 1) (key_of fields ∷ keys) records none.1)

-- ---- the whole

pub faultless_fits : (columns : ℕ) (records : List (List (List ℕ))) → table_fault columns records ≡ None → (are_names columns (names_of records) ≡ true) × AllByRecursion (IsRow columns) (rows_of records)
faultless_fits columns [] e = absurd (cc)
faultless_fits columns ([] ∷ records) e = absurd (cc)
faultless_fits columns ((first ∷ names) ∷ records) e = at (is_header columns (first ∷ names)) refl e
  where
    at : (b : Bool) → is_header columns (first ∷ names) ≡ b → (if b then first_faulty columns 2 [] records else Some (1, BadHeader)) ≡ None
        → (are_names columns names ≡ true) × AllByRecursion (IsRow columns) (map row_of_record records)
    at true is none = ((and_parts (bytes_eq first (codes "key")) (are_names columns names) is).1, rows_fit columns 2 [] records none)
    at false is none = absurd (cc)
