-- Rows by record: what the walks answer, said of the table that is seen.
use Rattle.std.proofs.Common.{◌≡◌, ◌⊎◌, ◌≢◌, ℕ, ◌+◌, ◌<◌, ◌≤◌, List, [], true, false, refl, sym, subst, ap, ◌∙◌, arith, inl, inr, ⊎_elim, true≢false}
use Rattle.std.specs.Prelude.{Option, Some, None, is_some, unwrap_or}
use Rattle.std.specs.FinMap.{insert}
use Rattle.lst_model.specs.Cells.{Cell, number_at, holds_at}
use Rattle.lst_model.specs.Tables.{Rows, no_rows, all_applied, row_of}
use Rattle.lst_model.specs.Histories.{replayed, row_from}
use Rattle.lst_model.proofs.Folds.{get_snapshot}
use Rattle.lst_core_state.specs.declared.known.Known.{Known}
use Rattle.lst_core_state.specs.declared.facts.Fact.TheVariants.{IndexAt}
use Rattle.lst_core_state.specs.State.{sight}
use Rattle.lst_core_state.specs.Sound.{IsRecorded}
use Rattle.lst_rule.specs.declared.view.View.{View}
use Rattle.lst_rule.specs.Rule.{knows, hosts}
use Rattle.lst_rule.specs.Learned.{Possible}
use Rattle.lst_rule.specs.Seen.{SeesAlike, HasKey}
use Rattle.lst_rule.specs.Watching.{Watched}
use Rattle.lst_rule.specs.Laws.{KeptBy}
use Rattle.lst_rule.proofs.Watching.{watchers_keep}
use Rattle.lst_rule.proofs.Keying.{one_key, one_record, record_low, recorded}
use Rattle.lst_core_state.specs.Cells.{record_count}
use Rattle.lst_walk.specs.Patches.{cell_in}
use Rattle.lst_walk.specs.Walks.{IsRowOf, IsCellOf}
use Rattle.lst_scan.specs.Scans.{table_seen, IsRowOn, IsEntryOn, IsEntryWith, IsCellOn, Places, between}
use Rattle.lst_scan.proofs.Parts.{total, total_one, total_none, whole, put_between, same_between}

pub none_is_not : (row : List Cell) → None ≢ Some row
none_is_not row e = true≢false (sym (ap is_some e))

pub same_row : (row other : List Cell) → Some row ≡ Some other → row ≡ other
same_row row other e = ap (λ o. unwrap_or o row) e

-- ---- by the key of the record

pub row_seen : (k : Known) (key : ℕ) → row_of (table_seen k) key ≡ row_from None (sight k key)
row_seen k key = get_snapshot k.seen k.begin k.own key

module _ (v : View) (s rec : ℕ) where
  pub row_on : (row : Option (List Cell)) → IsRowOf v s rec row → IsRowOn (knows v s) rec row
  row_on (Some row) is = ⊎_elim
      (λ (none : is.0 ≡ []). absurd (none_is_not row (sym (is.2 ∙ ap (row_from None) none))))
      (λ (has : (key : ℕ) × HasKey (knows v s).facts rec key). (has.0, has.1, row_seen (knows v s) has.0 ∙ (ap (row_from None) (sym (is.1.of_key has.0 has.1)) ∙ sym is.2)))
      is.1.keyed
  row_on None is = λ key has. row_seen (knows v s) key ∙ (ap (row_from None) (sym (is.1.of_key key has)) ∙ sym is.2)

  pub cell_on : (column : ℕ) (cell : Option ℕ) → IsCellOf v s rec column cell → IsCellOn (knows v s) rec column cell
  cell_on column cell is = (row_from None is.0, row_on (row_from None is.0) (is.0, is.1, refl), is.2)

-- the key that is loaded after the row
pub entry_on : (v w : View) (s rec key : ℕ) → Possible v → hosts v s ≡ true → (knows v s).is_open ≡ true → Watched v w s → (row : List Cell) → IsRowOn (knows v s) rec (Some row) → ((k : ℕ) → HasKey (knows w s).facts rec k → key ≡ k) → IsEntryOn (knows v s) rec (Some (key, row))
entry_on v w s rec key p host is_on watched row on found = let kept = watchers_keep v w s p host is_on watched in
    let same : key ≡ on.0 = found on.0 (on.1.0, kept.facts (IndexAt on.1.0 rec on.0) on.1.1) in
    (subst (λ (k : ℕ). HasKey (knows v s).facts rec k) (sym same) on.1, ap (row_of (table_seen (knows v s))) same ∙ on.2)

-- where the number isn't in the row
pub not_with : (v : View) (s rec column number : ℕ) → Possible v → hosts v s ≡ true → (entry : ℕ × List Cell) → IsEntryOn (knows v s) rec (Some entry) → holds_at column number entry.1 ≡ false → IsEntryWith (knows v s) rec column number None
not_with v s rec column number p host entry on misses other there = ap (holds_at column number) (same_row other.1 entry.1
    (sym there.1 ∙ (ap (row_of (table_seen (knows v s))) (one_key v s p host rec other.0 entry.0 there.0 on.0) ∙ on.1))) ∙ misses

-- ---- places

-- every row's key is on a record
module _ (v : View) (s : ℕ) (p : Possible v) (host : hosts v s ≡ true) (is_on : (knows v s).is_open ≡ true) where
  pub place_of : ℕ → ℕ
  place_of key = ⊎_elim (λ (none : sight (knows v s) key ≡ []). 0) (λ (r : IsRecorded (knows v s).facts key). r.1) (recorded v s p host is_on key)

  pub places_of : Places (knows v s) place_of
  unfolding place_of
  places_of key row at = choose (recorded v s p host is_on key)
    where
      choose : (q : (sight (knows v s) key ≡ []) ⊎ IsRecorded (knows v s).facts key) → HasKey (knows v s).facts (⊎_elim (λ (none : sight (knows v s) key ≡ []). 0) (λ (r : IsRecorded (knows v s).facts key). r.1) q) key
      choose (inl none) = absurd (none_is_not row (sym (ap (row_from None) none) ∙ (sym (row_seen (knows v s) key) ∙ at)))
      choose (inr r) = (r.0, r.2)

-- what is seen stays, and so do the places
pub same_table : (u k : Known) → SeesAlike u k → table_seen k ≡ table_seen u
same_table u k same = λ i. all_applied (replayed no_rows (same.front i)) (same.own i)

pub places_stay : (u k : Known) → KeptBy u k → (place : ℕ → ℕ) → Places u place → Places k place
places_stay u k kept place places key row at = let h = places key row (ap (λ (t : Rows). row_of t key) (sym (same_table u k kept.alike)) ∙ at) in (h.0, kept.facts (IndexAt h.0 (place key) key) h.1)

-- ---- one record's part of the table

-- a weight of the row, or of none
abbrev pub weight_of : (List Cell → ℕ) → Option (List Cell) → ℕ
weight_of weight None = 0
weight_of weight (Some row) = weight row

pub number_weight : (column : ℕ) (row : Option (List Cell)) (cell : Option ℕ) → cell ≡ cell_in column row → unwrap_or cell 0 ≡ weight_of (number_at column) row
number_weight column None cell is = ap (λ (c : Option ℕ). unwrap_or c 0) is
number_weight column (Some row) cell is = ap (λ (c : Option ℕ). unwrap_or c 0) is

pub one_weight : (column : ℕ) (row : Option (List Cell)) (cell : Option ℕ) → cell ≡ cell_in column row → is_some cell ≡ true → weight_of (λ _. 1) row ≡ 1
one_weight column None cell is some = absurd (true≢false (sym some ∙ ap is_some is))
one_weight column (Some row) cell is some = refl

pub no_weight : (column : ℕ) (row : Option (List Cell)) (cell : Option ℕ) → cell ≡ cell_in column row → (is_some cell ≡ true → ⊥) → weight_of (λ _. 1) row ≡ 0
no_weight column None cell is none = refl
no_weight column (Some row) cell is none = absurd (none (ap is_some is))

-- a table with one entry more, or with none
abbrev pub with_entry : Option (ℕ × List Cell) → Rows → Rows
with_entry None table = table
with_entry (Some entry) table = insert table entry.0 entry.1

module _ (v : View) (s : ℕ) (p : Possible v) (host : hosts v s ≡ true) (place : ℕ → ℕ) (places : Places (knows v s) place) where
  on_record : (rec key : ℕ) (row : List Cell) → row_of (table_seen (knows v s)) key ≡ Some row → rec ≤ place key → place key < rec + 1 → HasKey (knows v s).facts rec key
  on_record rec key row at low high = subst (λ (n : ℕ). HasKey (knows v s).facts n key) (omega arith) (places key row at)

  -- the rows on one record are the one that is seen there
  pub total_on : (weight : List Cell → ℕ) (rec : ℕ) (row : Option (List Cell)) → IsRowOn (knows v s) rec row → total weight (between place rec (rec + 1) (table_seen (knows v s))) ≡ weight_of weight row
  total_on weight rec (Some row) on = let here : place on.0 ≡ rec = one_record v s p host (place on.0) rec on.0 (places on.0 row on.2) on.1 in
      total_one weight place (table_seen (knows v s)) rec (rec + 1) on.0 row on.2 (omega arith) (omega arith) (λ other r there low high. one_key v s p host rec other on.0 (on_record rec other r there low high) on.1)
  total_on weight rec None on = total_none weight place (table_seen (knows v s)) rec (rec + 1) (λ key row at low high. none_is_not row (sym (on key (on_record rec key row at low high)) ∙ at))

  -- all rows are on records of the store
  pub all_rows : between place 0 (record_count v.limits) (table_seen (knows v s)) ≡ table_seen (knows v s)
  all_rows = whole place 0 (record_count v.limits) (table_seen (knows v s)) (λ key row at. (omega arith, record_low v s p host (place key) key (places key row at)))

  -- the table of the records before, with one record more
  pub with_record : (low rec : ℕ) → low ≤ rec → (entry : Option (ℕ × List Cell)) → IsEntryOn (knows v s) rec entry → between place low (rec + 1) (table_seen (knows v s)) ≡ with_entry entry (between place low rec (table_seen (knows v s)))
  with_record low rec rises (Some entry) on = put_between place low rec rises (table_seen (knows v s)) entry.0 entry.1 on.1 (one_record v s p host (place entry.0) rec entry.0 (places entry.0 entry.1 on.1) on.0)
      (λ other r there here. one_key v s p host rec other entry.0 (subst (λ (n : ℕ). HasKey (knows v s).facts n other) here (places other r there)) on.0)
  with_record low rec rises None on = same_between place low rec rises (table_seen (knows v s))
      (λ key row at here. none_is_not row (sym (on key (subst (λ (n : ℕ). HasKey (knows v s).facts n key) here (places key row at))) ∙ at))
