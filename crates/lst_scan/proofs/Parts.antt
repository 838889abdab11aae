-- Parts of a table, by the records that place says its keys are on.
use Rattle.std.proofs.Common.{◌≡◌, ℕ, ◌+◌, ◌<◌, ◌≤◌, Bool, true, false, cond, ◌&&◌, nat_le, nat_lt, List, refl, sym, ap, ◌≢◌, ◌∙◌, arith, ne_eqb, eq-eqb, le-leb, leb-true, lt-ltb, ltb-true, true≢false}
use mathlib.Core.Logic.{dite}
use native.Mathlib.Decide.{dec_lt, ℕ_discrete}
use Rattle.std.specs.Prelude.{Option, Some, None, sum_by, ◌==◌}
use Rattle.std.specs.Ordering.{nat_cmp}
use Rattle.std.specs.Cmp.{nat_cmp_total, unsigned_tied}
use Rattle.std.specs.FinMap.{entries, len-entries, entries_sorted, retain_keys, insert, get-insert, get-entries, get-retain_keys, nat_cmp-IsAntisymmetric, same_map}
use Rattle.std.specs.FinMap.Entries.{find, where_key, find-where_key, is_sorted-where_key, same_entries}
use Rattle.lst_model.specs.Cells.{Cell}
use Rattle.lst_model.specs.Tables.{Rows, row_of, count_of}
use Rattle.lst_scan.specs.Scans.{is_between, between}
use Rattle.lst_scan.proofs.Totals.{length_sum, sum_where, none_chosen, one_chosen, sum_split}

-- ---- numbers between two others

pub both_hold : (a b : Bool) → (a && b) ≡ true → (a ≡ true) × (b ≡ true)
both_hold true true e = (refl, refl)
both_hold true false e = (refl, e)
both_hold false b e = absurd (true≢false (sym e))

pub is_within : (low high n : ℕ) → low ≤ n → n < high → is_between low high n ≡ true
is_within low high n a b = λ i. le-leb low n a i && lt-ltb n high b i

pub within_is : (low high n : ℕ) → is_between low high n ≡ true → (low ≤ n) × (n < high)
within_is low high n e = let h = both_hold (nat_le low n) (nat_lt n high) e in (leb-true low n h.0, ltb-true n high h.1)

by_test : (b : Bool) → (b ≡ true → ⊥) → b ≡ false
by_test true h = absurd (h refl)
by_test false h = refl

outside : (low high n : ℕ) → (low ≤ n → n < high → ⊥) → is_between low high n ≡ false
outside low high n not = by_test (is_between low high n) (λ e. let h = within_is low high n e in not h.0 h.1)

between_splits : (low mid high : ℕ) → low ≤ mid → mid ≤ high → (n x : ℕ) → cond (is_between low high n) x 0 ≡ cond (is_between low mid n) x 0 + cond (is_between mid high n) x 0
between_splits low mid high a b n x = dite (dec_lt n low)
    (λ below. three false false false (outside low high n (λ h k. omega arith)) (outside low mid n (λ h k. omega arith)) (outside mid high n (λ h k. omega arith)) (omega arith))
    (λ above. dite (dec_lt n mid)
    (λ first. three true true false (is_within low high n (omega arith) (omega arith)) (is_within low mid n (omega arith) first) (outside mid high n (λ h k. omega arith)) (omega arith))
    (λ later. dite (dec_lt n high)
    (λ second. three true false true (is_within low high n (omega arith) second) (outside low mid n (λ h k. omega arith)) (is_within mid high n (omega arith) second) (omega arith))
    (λ beyond. three false false false (outside low high n (λ h k. omega arith)) (outside low mid n (λ h k. omega arith)) (outside mid high n (λ h k. omega arith)) (omega arith))))
  where
    three : (p q r : Bool) → is_between low high n ≡ p → is_between low mid n ≡ q → is_between mid high n ≡ r → cond p x 0 ≡ cond q x 0 + cond r x 0
        → cond (is_between low high n) x 0 ≡ cond (is_between low mid n) x 0 + cond (is_between mid high n) x 0
    three p q r e f g is = ap (λ t. cond t x 0) e ∙ (is ∙ (λ i. cond (sym f i) x 0 + cond (sym g i) x 0))

-- ---- parts

entries_part : (table : Rows) (passes : ℕ → Bool) → entries (retain_keys table passes) ≡ where_key nat_cmp passes (entries table)
entries_part table passes = same_entries nat_cmp nat_cmp_total nat_cmp-IsAntisymmetric (entries (retain_keys table passes)) (where_key nat_cmp passes (entries table))
    (entries_sorted (retain_keys table passes)) (is_sorted-where_key nat_cmp passes (entries table) (entries_sorted table))
    (λ q. sym (get-entries (retain_keys table passes) q) ∙ (get-retain_keys table passes q (λ x e. ap passes (sym (nat_cmp-IsAntisymmetric q x e)))
    ∙ (ap (λ o. cond (passes q) o None) (get-entries table q) ∙ sym (find-where_key nat_cmp passes q (λ x e. ap passes (sym (nat_cmp-IsAntisymmetric q x e))) (entries table)))))

-- what a part has at a key
pub row_between : (place : ℕ → ℕ) (low high : ℕ) (table : Rows) (key : ℕ) → row_of (between place low high table) key ≡ cond (is_between low high (place key)) (row_of table key) None
row_between place low high table key = get-retain_keys table (λ k. is_between low high (place k)) key (λ x e. ap (λ k. is_between low high (place k)) (sym (nat_cmp-IsAntisymmetric key x e)))

-- what a weight of rows gives over a table
abbrev pub total : (List Cell → ℕ) → Rows → ℕ
total weight table = sum_by (λ (e : ℕ × List Cell). weight e.1) (entries table)

-- a count is the total of ones
pub count_is : (table : Rows) → count_of table ≡ sum_by (λ (e : ℕ × List Cell). 1) (entries table)
count_is table = len-entries table ∙ length_sum (entries table)

module _ (weight : List Cell → ℕ) (place : ℕ → ℕ) (table : Rows) where
  abbrev by_row : ℕ × List Cell → ℕ
  by_row e = weight e.1

  total_between : (low high : ℕ) → total weight (between place low high table) ≡ sum_by (λ (e : ℕ × List Cell). cond (is_between low high (place e.0)) (weight e.1) 0) (entries table)
  total_between low high = ap (sum_by by_row) (entries_part table (λ k. is_between low high (place k))) ∙ sum_where by_row (λ k. is_between low high (place k)) (entries table)

  -- a part is two parts
  pub total_split : (low mid high : ℕ) → low ≤ mid → mid ≤ high → total weight (between place low high table) ≡ total weight (between place low mid table) + total weight (between place mid high table)
  total_split low mid high a b = total_between low high
      ∙ (sum_split by_row (λ k. is_between low high (place k)) (λ k. is_between low mid (place k)) (λ k. is_between mid high (place k)) (λ k x. between_splits low mid high a b (place k) x) (entries table)
      ∙ (λ i. sym (total_between low mid) i + sym (total_between mid high) i))

  found : (key : ℕ) (row : List Cell) → find nat_cmp key (entries table) ≡ Some row → row_of table key ≡ Some row
  found key row at = get-entries table key ∙ at

  pub total_none : (low high : ℕ) → ((key : ℕ) (row : List Cell) → row_of table key ≡ Some row → low ≤ place key → place key < high → ⊥) → total weight (between place low high table) ≡ 0
  total_none low high none = total_between low high ∙ none_chosen by_row (λ k. is_between low high (place k)) (entries table) (entries_sorted table) (λ key row at. outside low high (place key) (none key row (found key row at)))

  pub total_one : (low high key : ℕ) (row : List Cell) → row_of table key ≡ Some row → low ≤ place key → place key < high → ((other : ℕ) (r : List Cell) → row_of table other ≡ Some r → low ≤ place other → place other < high → other ≡ key)
      → total weight (between place low high table) ≡ weight row
  total_one low high key row at a b only = total_between low high
      ∙ one_chosen by_row (λ k. is_between low high (place k)) (entries table) (entries_sorted table) key row (sym (get-entries table key) ∙ at) (is_within low high (place key) a b)
      (λ other r there is. let h = within_is low high (place other) is in only other r (found other r there) h.0 h.1)

-- a part that all rows are in
pub whole : (place : ℕ → ℕ) (low high : ℕ) (table : Rows) → ((key : ℕ) (row : List Cell) → row_of table key ≡ Some row → (low ≤ place key) × (place key < high)) → between place low high table ≡ table
whole place low high table all = same_map nat_cmp_total nat_cmp-IsAntisymmetric (between place low high table) table
    (λ key. row_between place low high table key ∙ choose key (row_of table key) refl)
  where
    choose : (key : ℕ) (row : Option (List Cell)) → row_of table key ≡ row → cond (is_between low high (place key)) (row_of table key) None ≡ row_of table key
    choose key (Some row) e = let h = all key row e in ap (λ b. cond b (row_of table key) None) (is_within low high (place key) h.0 h.1)
    choose key None e = ap (λ o. cond (is_between low high (place key)) o None) e ∙ (same (is_between low high (place key)) None ∙ sym e)
      where
        same : (b : Bool) (o : Option (List Cell)) → cond b o o ≡ o
        same true o = refl
        same false o = refl

-- ---- one record more

more_between : (low n m : ℕ) → m ≢ n → is_between low (n + 1) m ≡ is_between low n m
more_between low n m apart = dite (dec_lt m low)
    (λ below. outside low (n + 1) m (λ h k. omega arith) ∙ sym (outside low n m (λ h k. omega arith)))
    (λ above. dite (dec_lt m n)
    (λ inside. is_within low (n + 1) m (omega arith) (omega arith) ∙ sym (is_within low n m (omega arith) inside))
    (λ beyond. outside low (n + 1) m (λ h k. omega arith) ∙ sym (outside low n m (λ h k. omega arith))))

module _ (place : ℕ → ℕ) (low n : ℕ) (rises : low ≤ n) (table : Rows) where
  -- at a key that isn't on the record n
  apart_row : (key : ℕ) → ((row : List Cell) → row_of table key ≡ Some row → place key ≢ n) → cond (is_between low (n + 1) (place key)) (row_of table key) None ≡ cond (is_between low n (place key)) (row_of table key) None
  apart_row key apart = choose (row_of table key) refl
    where
      same : (a b : Bool) (o : Option (List Cell)) → cond a o o ≡ cond b o o
      same true true o = refl
      same true false o = refl
      same false true o = refl
      same false false o = refl

      choose : (row : Option (List Cell)) → row_of table key ≡ row → cond (is_between low (n + 1) (place key)) (row_of table key) None ≡ cond (is_between low n (place key)) (row_of table key) None
      choose (Some row) e = ap (λ b. cond b (row_of table key) None) (more_between low n (place key) (apart row e))
      choose None e = ap (λ o. cond (is_between low (n + 1) (place key)) o None) e ∙ (same (is_between low (n + 1) (place key)) (is_between low n (place key)) None ∙ ap (λ o. cond (is_between low n (place key)) o None) (sym e))

  -- no key with a row is on it
  pub same_between : ((key : ℕ) (row : List Cell) → row_of table key ≡ Some row → place key ≢ n) → between place low (n + 1) table ≡ between place low n table
  same_between none = same_map nat_cmp_total nat_cmp-IsAntisymmetric (between place low (n + 1) table) (between place low n table)
      (λ key. row_between place low (n + 1) table key ∙ (apart_row key (none key) ∙ sym (row_between place low n table key)))

  -- one is
  pub put_between : (key : ℕ) (row : List Cell) → row_of table key ≡ Some row → place key ≡ n → ((other : ℕ) (r : List Cell) → row_of table other ≡ Some r → place other ≡ n → other ≡ key) → between place low (n + 1) table ≡ insert (between place low n table) key row
  put_between key row at here only = same_map nat_cmp_total nat_cmp-IsAntisymmetric (between place low (n + 1) table) (insert (between place low n table) key row)
      (λ q. row_between place low (n + 1) table q ∙ (choose q (ℕ_discrete q key) ∙ sym (get-insert nat_cmp_total (between place low n table) key row q ∙ (λ i. cond (unsigned_tied q key i) (Some row) (row_between place low n table q i)))))
    where
      choose : (q : ℕ) → Dec (q ≡ key) → cond (is_between low (n + 1) (place q)) (row_of table q) None ≡ cond (q == key) (Some row) (cond (is_between low n (place q)) (row_of table q) None)
      choose q (yes same) = ap (λ k. cond (is_between low (n + 1) (place k)) (row_of table k) None) same ∙ ((λ i. cond (is_within low (n + 1) (place key) (omega arith) (omega arith) i) (at i) None)
          ∙ ap (λ b. cond b (Some row) (cond (is_between low n (place q)) (row_of table q) None)) (sym (eq-eqb q key same)))
      choose q (no apart) = apart_row q (λ r there on. apart (only q r there on)) ∙ ap (λ b. cond b (Some row) (cond (is_between low n (place q)) (row_of table q) None)) (sym (ne_eqb q key apart))
