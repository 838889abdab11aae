-- The rows of a table: as many at most as keys are written, and what they add up to.
use Rattle.std.proofs.Common.{◌≡◌, ℕ, zero, suc, ◌<◌, ◌≤◌, ◌^◌, Bool, true, false, ◌||◌, nat_lt, List, [], ◌∷◌, length, map, Option, Some, None, refl, sym, ap, subst, ◌∙◌, arith}
use Rattle.std.specs.Prelude.{IfSome, ◌==◌, nat_eq, filter}
use Rattle.std.specs.List.{All, AllByRecursion, IsDistinct, list_all}
use Rattle.std.specs.Cmp.{nat_eq_equiv}
use Rattle.std.specs.Cmp.Lexicographic.{pointwise}
use Rattle.std.specs.FinMap.{entries, get, len-entries}
use Rattle.std.proofs.lemmas.Bool.{eqb-true, ltb-true, ne_eqb, and_parts}
use Rattle.std.proofs.lemmas.List.{length-map}
use Rattle.std.proofs.lemmas.List.Elements.{All-from_recursion}
use Rattle.std.proofs.lemmas.Map.Made.{length-le_from_is_member}
use Rattle.std.proofs.ByRecursion.{sum_by_le, all_kept_by}
use Rattle.lst_model.specs.Cells.{Cell, number_of, cells_of, null_bits, number_at, holds_at}
use Rattle.lst_model.specs.CellLaws.{row_is_own}
use Rattle.lst_model.specs.Tables.{Rows, row_of, sum_of, count_of, scan_of, find_of}
use Rattle.lst_replies.specs.ReportTexts.{CellFits, EntryFits}
use Rattle.lst_snapshots.specs.Told.{rise, rise_above, are_same, is_row}
use Rattle.lst_snapshots.proofs.Rising.{rise_tail}
use Rattle.lst_snapshots.proofs.Telling.{keys_in, entries_rise, rows_tests}
use Rattle.lst_report.proofs.Opened.{is_among, StandsAt}

-- ---- what a table has at the key of an entry

same_numbers : (xs ys : List ℕ) → pointwise nat_eq xs ys ≡ true → xs ≡ ys
same_numbers [] [] is = refl
same_numbers [] (y ∷ ys) is = absurd (cc)
same_numbers (x ∷ xs) [] is = absurd (cc)
same_numbers (x ∷ xs) (y ∷ ys) is =
    let parts = and_parts (nat_eq x y) (pointwise nat_eq xs ys) is in
    let head : x ≡ y = eqb-true _ _ parts.0 in
    let tail = same_numbers xs ys parts.1 in
    cc (head, tail)

same_cells : (xs ys : List Cell) → are_same xs ys ≡ true → xs ≡ ys
same_cells xs ys is =
    let parts = and_parts (pointwise nat_eq (map number_of xs) (map number_of ys)) (nat_eq (null_bits xs) (null_bits ys)) is in
    let numbers = same_numbers (map number_of xs) (map number_of ys) parts.0 in
    let nulls : null_bits xs ≡ null_bits ys = eqb-true _ _ parts.1 in
    sym (row_is_own xs) ∙ ap (λ n. cells_of n 0 (map number_of xs)) nulls ∙ ap (cells_of (null_bits ys) 0) numbers ∙ row_is_own ys

-- ---- keys that rise are distinct

apart_above : (key last : ℕ) (rest : List ℕ) → rise_above last rest ≡ true → key ≤ last → AllByRecursion (λ other. (key == other) ≡ false) rest
apart_above key last [] rises low = tt
apart_above key last (next ∷ rest) rises low =
    let parts = and_parts (nat_lt last next) (rise_above next rest) rises in
    let above : last < next = ltb-true last next parts.0 in
    (ne_eqb key next (λ same. absurd (omega (arith, low, above, same))), apart_above key next rest parts.1 (omega (arith, low, above)))

rising_distinct : (rest : List ℕ) → rise rest ≡ true → IsDistinct nat_eq rest
unfolding IsDistinct
rising_distinct [] rises = tt
rising_distinct (key ∷ rest) rises = (apart_above key key rest rises (omega arith), rising_distinct rest (rise_tail key rest rises))

-- ---- a number of a row

number_low : (column : ℕ) (row : List Cell) → AllByRecursion CellFits row → number_at column row ≤ 2 ^ 64
number_low column [] fits = omega arith
number_low zero (None ∷ row) fits = omega arith
number_low zero (Some number ∷ row) fits = omega (arith, fits.0)
number_low (suc column) (cell ∷ row) fits = number_low column row fits.1

-- ---- tables whose rows stand at keys that are written

module _ (columns : ℕ) (keys : List ℕ) where
  abbrev EntryStands : ℕ × List Cell → Type 0
  EntryStands entry = StandsAt columns keys entry.0 entry.1

  found_stands : (key : ℕ) (row : Option (List Cell)) (cells : List Cell) → IfSome row (StandsAt columns keys key) → is_row row cells ≡ true → StandsAt columns keys key cells
  found_stands key None cells stands is = absurd (cc)
  found_stands key (Some seen) cells stands is = subst (StandsAt columns keys key) (same_cells seen cells is) stands

  all_stand : (table : Rows) (es : List (ℕ × List Cell)) → ((key : ℕ) → IfSome (row_of table key) (StandsAt columns keys key)) → list_all (λ (e : ℕ × List Cell). is_row (get table e.0) e.1) es ≡ true → AllByRecursion EntryStands es
  all_stand table [] stands tests = tt
  all_stand table (e ∷ es) stands tests =
      let parts = and_parts (is_row (get table e.0) e.1) (list_all (λ (e : ℕ × List Cell). is_row (get table e.0) e.1) es) tests in
      (found_stands e.0 (get table e.0) e.1 (stands e.0) parts.0, all_stand table es stands parts.1)

  keys_among : (es : List (ℕ × List Cell)) → AllByRecursion EntryStands es → (key : ℕ) → is_among (keys_in es) key ≡ true → is_among keys key ≡ true
  keys_among [] stand key is = absurd (cc)
  keys_among (e ∷ es) stand key is = by (key == e.0) refl is (keys_among es stand.1 key)
    where
      by : (here : Bool) → (key == e.0) ≡ here → (here || is_among (keys_in es) key) ≡ true → (is_among (keys_in es) key ≡ true → is_among keys key ≡ true) → is_among keys key ≡ true
      by true same there later = subst (λ k. is_among keys k ≡ true) (sym (eqb-true key e.0 same)) stand.0.0.1
      by false other there later = later there

  entries_fit : (es : List (ℕ × List Cell)) → AllByRecursion EntryStands es → AllByRecursion (EntryFits columns) es
  entries_fit [] stand = tt
  entries_fit (e ∷ es) stand = (record { key = stand.0.0.0; row = record { width = stand.0.1.0; cells = All-from_recursion CellFits e.1 stand.0.1.1 } }, entries_fit es stand.1)

  keys_fit : (es : List (ℕ × List Cell)) → AllByRecursion EntryStands es → AllByRecursion (λ key. key < 2 ^ 64) (keys_in es)
  keys_fit [] stand = tt
  keys_fit (e ∷ es) stand = (stand.0.0.0, keys_fit es stand.1)

  numbers_low : (column : ℕ) (es : List (ℕ × List Cell)) → AllByRecursion EntryStands es → AllByRecursion (λ (e : ℕ × List Cell). number_at column e.1 ≤ 2 ^ 64) es
  numbers_low column [] stand = tt
  numbers_low column (e ∷ es) stand = (number_low column e.1 stand.0.1.1, numbers_low column es stand.1)

  module _ (table : Rows) (stands : (key : ℕ) → IfSome (row_of table key) (StandsAt columns keys key)) where
    pub entries_stand : AllByRecursion EntryStands (entries table)
    entries_stand = all_stand table (entries table) stands (rows_tests table)

    -- ---- what is asked of a table

    pub few_rows : count_of table ≤ length keys
    few_rows =
        let few = length-le_from_is_member nat_eq_equiv (keys_in (entries table)) keys (rising_distinct (keys_in (entries table)) (entries_rise table)) (keys_among (entries table) entries_stand) in
        omega (arith, few, len-entries table, length-map (entries table) (λ (e : ℕ × List Cell). e.0))

    pub scan_fits : All (EntryFits columns) (scan_of table)
    scan_fits = All-from_recursion (EntryFits columns) (entries table) (entries_fit (entries table) entries_stand)

    pub find_fits : (column value : ℕ) → All (λ key. key < 2 ^ 64) (find_of table column value)
    find_fits column value =
        let holders = filter (λ (e : ℕ × List Cell). holds_at column value e.1) (entries table) in
        All-from_recursion (λ key. key < 2 ^ 64) (find_of table column value)
        (keys_fit holders (all_kept_by (λ (e : ℕ × List Cell). holds_at column value e.1) EntryStands (entries table) entries_stand))

    -- ---- sums

    pub sum_low : (column : ℕ) → length keys < 2 ^ 32 → sum_of table column < 2 ^ 128
    sum_low column few =
        let low = sum_by_le (λ (e : ℕ × List Cell). number_at column e.1) (2 ^ 64) (entries table) (numbers_low column (entries table) entries_stand) in
        omega (arith, low, few, few_rows, len-entries table)
