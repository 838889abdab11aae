-- A table that is written is read again, and its rows make it anew.
use Rattle.std.proofs.Common.{◌≡◌, ℕ, suc, ◌+◌, ◌<◌, ◌≤◌, ◌^◌, ◌&&◌, ◌||◌, Bool, true, false, cond, eqb, List, [], ◌∷◌, length, map, is_some, Option, Some, None, unwrap_or, option_map, decimal, refl, sym, ap, subst, ◌∙◌, arith}
use Rattle.std.specs.Prelude.{T}
use Rattle.std.specs.List.{list_all, list_any, AllByRecursion}
use Rattle.std.specs.Ordering.{nat_cmp, is_lt, is_eq, eq_by_cmp}
use Rattle.std.specs.declared.cmp.Ordering.{Ordering}
use Rattle.std.specs.declared.cmp.Ordering.TheVariants.{Less, Equal, Greater}
use Rattle.std.specs.FinMap.{entries_sorted, get, get-entries, get-insert, insert, is_sorted, find, same_map, nat_cmp-IsAntisymmetric, get-empty, len-entries}
use Rattle.std.specs.FinMap.Entries.{below_all}
use Rattle.std.specs.Cmp.{nat_cmp_total, unsigned_tied}
use Rattle.std.proofs.lemmas.Bool.{eq-eqb, eqb-true, and_from, false≢true}
use Rattle.std.proofs.lemmas.List.{length-map}
use Rattle.csv.specs.Reading.{strip_bom}
use Rattle.lst_model.specs.Cells.{Cell}
use Rattle.lst_model.specs.Tables.{Rows, no_rows, all_applied, scan_of}
use Rattle.lst_script.specs.Numbers.{number_of}
use Rattle.lst_script.proofs.Plain.{number_again}
use Rattle.lst_csv.specs.Records.{records_of}
use Rattle.lst_csv.specs.Tables.{cell_of_field, key_of, row_of_record, are_fields, first_faulty, table_fault}
use Rattle.lst_csv.specs.Writing.{field_of_cell, record_of_row, records_of_rows, rows_text, table_text}
use Rattle.lst_csv.specs.Laws.{IsRecord, IsCell64, IsRow, put_of, IsTableAgain, TableIsReadAgain, TextIsTheSame}
use Rattle.lst_csv.proofs.RoundTrip.{read_again}
use Rattle.lst_csv.proofs.Rows.{going}
use Rattle.lst_csv.specs.Importing.{transaction_of}
use Rattle.lst_script.specs.Canonical.{named_text}

-- ---- fields

number_field : (word : List ℕ) (n : ℕ) → number_of word ≡ Some n → cell_of_field word ≡ Some (Some n)
number_field [] n e = absurd cc
number_field (byte ∷ bytes) n e = ap (λ o. option_map (λ m. Some m) o) e

cell_again : (cell : Cell) → IsCell64 cell → cell_of_field (field_of_cell cell) ≡ Some cell
cell_again None small = refl
cell_again (Some n) small = number_field (decimal n) n (number_again n small)

cells_again : (row : List Cell) → AllByRecursion IsCell64 row → map (λ field. unwrap_or (cell_of_field field) None) (map field_of_cell row) ≡ row
cells_again [] all = refl
cells_again (cell ∷ row) all = λ j. unwrap_or (cell_again cell all.0 j) None ∷ cells_again row all.1 j

are_cells : (row : List Cell) → AllByRecursion IsCell64 row → list_all (λ field. is_some (cell_of_field field)) (map field_of_cell row) ≡ true
are_cells [] all = refl
are_cells (cell ∷ row) all = and_from _ _ (ap (λ o. is_some o) (cell_again cell all.0)) (are_cells row all.1)

key_again : (row : ℕ × List Cell) → row.0 < 2 ^ 64 → key_of (record_of_row row) ≡ row.0
key_again row small = ap (λ o. unwrap_or o 0) (number_again row.0 small)

row_again : (columns : ℕ) (row : ℕ × List Cell) → IsRow columns row → row_of_record (record_of_row row) ≡ row
row_again columns row is = λ j. (key_again row is.key j, cells_again row.1 is.cells j)

rows_again : (columns : ℕ) (rows : List (ℕ × List Cell)) → AllByRecursion (IsRow columns) rows → map row_of_record (map record_of_row rows) ≡ rows
rows_again columns [] all = refl
rows_again columns (row ∷ rows) all = λ j. row_again columns row all.0 j ∷ rows_again columns rows all.1 j

fields_again : (columns : ℕ) (row : ℕ × List Cell) → IsRow columns row → (length (record_of_row row) ≡ columns + 1) × (are_fields (record_of_row row) ≡ true)
fields_again columns row is = (
  omega (arith, length-map row.1 field_of_cell, is.width),
  and_from _ _ (ap (λ o. is_some o) (number_again row.0 is.key)) (are_cells row.1 is.cells),
)

-- ---- keys that rise

t_first : (a b : Bool) → T (a && b) → T a
t_first true b p = tt
t_first false b p = absurd p

t_second : (a b : Bool) → T (a && b) → T b
t_second true b p = p
t_second false b p = absurd p

not_below_itself : (x : ℕ) → T (is_lt (nat_cmp x x)) → ⊥
not_below_itself x below = by (nat_cmp x x) below (unsigned_tied x x ∙ eq-eqb x x refl)
  where
    by : (o : Ordering) → T (is_lt o) → is_eq o ≡ true → ⊥
    by Less less same = absurd (false≢true same)
    by Equal less same = less
    by Greater less same = less

-- the keys before are below those to come
abbrev Below : List ℕ → List (ℕ × List Cell) → Type 0
Below keys rows = (key : ℕ) → list_any (λ other. eqb other key) keys ≡ true → T (below_all nat_cmp key rows)

fresh_key : (keys : List ℕ) (row : ℕ × List Cell) (rows : List (ℕ × List Cell)) → Below keys (row ∷ rows) → list_any (λ other. eqb other row.0) keys ≡ false
fresh_key keys row rows below = by (list_any (λ other. eqb other row.0) keys) refl
  where
    by : (b : Bool) → list_any (λ other. eqb other row.0) keys ≡ b → b ≡ false
    by true is = absurd (not_below_itself row.0 (t_first (is_lt (nat_cmp row.0 row.0)) (below_all nat_cmp row.0 rows) (below row.0 is)))
    by false is = refl

below_next : (keys : List ℕ) (row : ℕ × List Cell) (rows : List (ℕ × List Cell)) → Below keys (row ∷ rows) → T (below_all nat_cmp row.0 rows) → Below (row.0 ∷ keys) rows
below_next keys row rows below rising key is = by (eqb row.0 key) refl is
  where
    by : (b : Bool) → eqb row.0 key ≡ b → (b || list_any (λ other. eqb other key) keys) ≡ true → T (below_all nat_cmp key rows)
    by true same any = subst (λ (k : ℕ). T (below_all nat_cmp k rows)) (eqb-true row.0 key same) rising
    by false other any = t_second (is_lt (nat_cmp key row.0)) (below_all nat_cmp key rows) (below key any)

faultless : (columns place : ℕ) (keys : List ℕ) (rows : List (ℕ × List Cell)) → place + length rows ≤ 16386 → AllByRecursion (IsRow columns) rows → T (is_sorted nat_cmp rows) → Below keys rows
    → first_faulty columns place keys (map record_of_row rows) ≡ None
faultless columns place keys [] few all sorted below = refl
faultless columns place keys (row ∷ rows) few all sorted below =
    let fields = record_of_row row in
    let same : key_of fields ≡ row.0 = key_again row all.0.key in
    let right = fields_again columns row all.0 in
    let rising : T (below_all nat_cmp row.0 rows) = t_first (below_all nat_cmp row.0 rows) (is_sorted nat_cmp rows) sorted in
    let new : list_any (λ key. eqb key (key_of fields)) keys ≡ false = ap (λ k. list_any (λ key. eqb key k) keys) same ∙ fresh_key keys row rows below in
    let size : length (row ∷ rows) ≡ suc (length rows) = refl in
    going columns place keys fields (map record_of_row rows) (omega (arith, few, size)) right.0 right.1 new
    ∙ ap (λ k. first_faulty columns (place + 1) (k ∷ keys) (map record_of_row rows)) same
    ∙ faultless columns (place + 1) (row.0 ∷ keys) rows (omega (arith, few, size)) all.1 (t_second (below_all nat_cmp row.0 rows) (is_sorted nat_cmp rows) sorted) (below_next keys row rows below rising)

-- ---- the table that rows make

abbrev or_else : Option (List Cell) → Option (List Cell) → Option (List Cell)
or_else None later = later
or_else (Some row) later = Some row

none_below : (key : ℕ) (rows : List (ℕ × List Cell)) → T (below_all nat_cmp key rows) → find nat_cmp key rows ≡ None
none_below key [] below = refl
none_below key (row ∷ rows) below = by (nat_cmp key row.0) (t_first (is_lt (nat_cmp key row.0)) (below_all nat_cmp key rows) below) (none_below key rows (t_second (is_lt (nat_cmp key row.0)) (below_all nat_cmp key rows) below))
  where
    by : (o : Ordering) → T (is_lt o) → find nat_cmp key rows ≡ None → cond (is_eq o) (Some row.1) (find nat_cmp key rows) ≡ None
    by Less less later = later
    by Equal less later = absurd less
    by Greater less later = absurd less

made : (table : Rows) (rows : List (ℕ × List Cell)) → T (is_sorted nat_cmp rows) → (q : ℕ) → get (all_applied table (map put_of rows)) q ≡ or_else (find nat_cmp q rows) (get table q)
made table [] sorted q = refl
made table (row ∷ rows) sorted q =
    made (insert table row.0 row.1) rows (t_second (below_all nat_cmp row.0 rows) (is_sorted nat_cmp rows) sorted) q
    ∙ ap (or_else (find nat_cmp q rows)) (get-insert nat_cmp_total table row.0 row.1 q)
    ∙ by (eq_by_cmp nat_cmp q row.0) refl
  where
    by : (b : Bool) → eq_by_cmp nat_cmp q row.0 ≡ b → or_else (find nat_cmp q rows) (cond b (Some row.1) (get table q)) ≡ or_else (cond b (Some row.1) (find nat_cmp q rows)) (get table q)
    by true is =
        let same : q ≡ row.0 = eqb-true q row.0 (sym (unsigned_tied q row.0) ∙ is) in
        ap (λ o. or_else o (Some row.1)) (ap (λ k. find nat_cmp k rows) same ∙ none_below row.0 rows (t_first (below_all nat_cmp row.0 rows) (is_sorted nat_cmp rows) sorted))
    by false is = refl

pub made_whole : (table : Rows) → all_applied no_rows (map put_of (scan_of table)) ≡ table
made_whole table = same_map nat_cmp_total nat_cmp-IsAntisymmetric (all_applied no_rows (map put_of (scan_of table))) table (λ q.
    made no_rows (scan_of table) (entries_sorted table) q
    ∙ ap (or_else (find nat_cmp q (scan_of table))) (get-empty nat_cmp q)
    ∙ by (find nat_cmp q (scan_of table))
    ∙ sym (get-entries table q))
  where
    by : (o : Option (List Cell)) → or_else o None ≡ o
    by None = refl
    by (Some row) = refl

-- ---- the whole

no_mark : (bytes : List ℕ) → strip_bom (107 ∷ 101 ∷ 121 ∷ bytes) ≡ 107 ∷ 101 ∷ 121 ∷ bytes
unfolding strip_bom
no_mark bytes = refl

all_records : (rows : List (ℕ × List Cell)) → AllByRecursion IsRecord (map record_of_row rows)
all_records [] = tt
all_records (row ∷ rows) = (omega arith, all_records rows)

records_again : (names : List (List ℕ)) (rows : List (ℕ × List Cell)) → records_of (rows_text names rows) ≡ records_of_rows names rows
records_again names rows = read_again (records_of_rows names rows) (omega arith, all_records rows) (no_mark _)

pub table_again : (columns : ℕ) (names : List (List ℕ)) (table : Rows) → TableIsReadAgain columns names table
table_again columns names table named few all =
    let rows = scan_of table in
    let count : length rows ≤ 16384 = omega (arith, few, len-entries table) in
    let sound : table_fault columns (records_of_rows names rows) ≡ None = rw named (faultless columns 2 [] rows (omega (arith, count)) all (entries_sorted table) (λ key is. absurd (false≢true is))) in
    subst (λ (records : List (List (List ℕ))). IsTableAgain columns names table records) (sym (records_again names rows))
    (record {
      faultless = sound;
      names_are = refl;
      rows_are = rows_again columns rows all;
      made = ap (λ (rs : List (ℕ × List Cell)). all_applied no_rows (map put_of rs)) (rows_again columns rows all) ∙ made_whole table;
      script = ap (λ (rs : List (ℕ × List Cell)). named_text names (transaction_of rs)) (rows_again columns rows all);
    })

pub same_text : (columns : ℕ) (names : List (List ℕ)) (table : Rows) → TextIsTheSame columns names table
same_text columns names table named few all =
    let again = table_again columns names table named few all in
    λ j. table_text (again.names_are j) (again.made j)
