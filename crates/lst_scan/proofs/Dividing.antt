-- The laws of parts and places.
use Rattle.std.proofs.Common.{◌≡◌, ℕ, zero, suc, ◌+◌, ◌-◌, ◌<◌, ◌≤◌, List, Bool, true, false, refl, sym, subst, ap, ◌∙◌, arith}
use Rattle.std.specs.Prelude.{Option, Some, None, sum_by, unwrap_or, slice_index_or}
use Rattle.std.specs.List.{range_with_len}
use Rattle.std.proofs.lemmas.List.Sums.{sum_by-cons}
use Rattle.lst_model.specs.Cells.{Cell, number_at}
use Rattle.lst_model.specs.Tables.{Rows, sum_of, row_of}
use Rattle.lst_core_state.specs.declared.facts.Fact.TheVariants.{IndexAt}
use Rattle.lst_rule.specs.declared.view.View.{View}
use Rattle.lst_rule.specs.Rule.{knows, hosts}
use Rattle.lst_rule.specs.Learned.{Possible}
use Rattle.lst_rule.specs.Seen.{HasKey}
use Rattle.lst_rule.proofs.Keying.{one_record, same_record}
use Rattle.lst_rule.specs.Watching.{Watched}
use Rattle.lst_rule.proofs.Watching.{watchers_keep}
use Rattle.lst_scan.specs.Scans.{table_seen, IsRowOn, between}
use Rattle.lst_scan.specs.Laws.{PartsAddUp, RecordsAddUp, CellsStay, RowsHavePlaces, PlacesAgree}
use Rattle.lst_scan.proofs.Parts.{total_none, total_split}
use Rattle.lst_scan.proofs.Seeing.{number_weight, same_table, place_of, places_of, total_on, all_rows}

-- a value of each number from `low` on, up to that of the last
module _ (part : ℕ → ℕ → ℕ) (none : (i : ℕ) → part i i ≡ 0) where
  -- pieces that join pair by pair join altogether
  pub pieces_join : (low n : ℕ) → ((i j k : ℕ) → low ≤ i → i ≤ j → j ≤ k → k ≤ low + n → part i k ≡ part i j + part j k) → part low (low + n) ≡ sum_by (λ i. part i (i + 1)) (range_with_len low n)
  pieces_join low zero joins = (λ i. part low (same i)) ∙ none low
    where
      same : low + 0 ≡ low
      same = omega arith
  pieces_join low (suc n) joins = let rest : part (low + 1) ((low + 1) + n) ≡ sum_by (λ i. part i (i + 1)) (range_with_len (low + 1) n) = pieces_join (low + 1) n (λ i j k a b c d. joins i j k (omega arith) b c (omega arith)) in
      let all : sum_by (λ i. part i (i + 1)) (range_with_len low (suc n)) ≡ part low (low + 1) + sum_by (λ i. part i (i + 1)) (range_with_len (low + 1) n) = sum_by-cons (λ i. part i (i + 1)) low (range_with_len (low + 1) n) in
      joins low (low + 1) (low + suc n) (omega arith) (omega arith) (omega arith) (omega arith) ∙ ((λ i. part low (low + 1) + part (low + 1) (same i)) ∙ ((λ i. part low (low + 1) + rest i) ∙ sym all))
    where
      same : low + suc n ≡ (low + 1) + n
      same = omega arith

same_sum : (f g : ℕ → ℕ) (low n : ℕ) → ((i : ℕ) → low ≤ i → i < low + n → f i ≡ g i) → sum_by f (range_with_len low n) ≡ sum_by g (range_with_len low n)
same_sum f g low zero same = refl
same_sum f g low (suc n) same = let a = sum_by-cons f low (range_with_len (low + 1) n) in let b = sum_by-cons g low (range_with_len (low + 1) n) in
    let here = same low (omega arith) (omega arith) in let rest = same_sum f g (low + 1) n (λ i above below. same i (omega arith) (omega arith)) in omega arith

module _ (place : ℕ → ℕ) (table : Rows) (column : ℕ) where
  abbrev sum_from : ℕ → ℕ → ℕ
  sum_from low high = sum_of (between place low high table) column

  empty_part : (low : ℕ) → sum_of (between place low low table) column ≡ 0
  empty_part low = total_none (number_at column) place table low low (λ key row at a b. omega arith)

-- numbers that never fall
rising : (cut : ℕ → ℕ) (n i d : ℕ) → ((j : ℕ) → j < n → cut j ≤ cut (j + 1)) → i + d ≤ n → cut i ≤ cut (i + d)
rising cut n i zero rises few = subst (λ j. cut i ≤ cut j) same (omega arith)
  where
    same : i ≡ i + 0
    same = omega arith
rising cut n i (suc d) rises few = let before : cut i ≤ cut (i + d) = rising cut n i d rises (omega arith) in let last : cut (i + d) ≤ cut (i + suc d) = subst (λ j. cut (i + d) ≤ cut j) same (rises (i + d) (omega arith)) in omega arith
  where
    same : (i + d) + 1 ≡ i + suc d
    same = omega arith

rising_to : (cut : ℕ → ℕ) (n i j : ℕ) → ((k : ℕ) → k < n → cut k ≤ cut (k + 1)) → i ≤ j → j ≤ n → cut i ≤ cut j
rising_to cut n i j rises low few = subst (λ k. cut i ≤ cut k) same (rising cut n i (j - i) rises (omega arith))
  where
    same : i + (j - i) ≡ j
    same = omega arith

pub parts_add_up : PartsAddUp
parts_add_up place table column n cut rises = (λ i. sum_of (between place (cut 0) (cut (same i)) table) column) ∙ pieces_join (λ i j. sum_of (between place (cut i) (cut j) table) column) (λ i. empty_part place table column (cut i)) 0 n
    (λ i j k a b c d. total_split (number_at column) place table (cut i) (cut j) (cut k) (rising_to cut n i j rises b (omega arith)) (rising_to cut n j k rises c (omega arith)))
  where
    same : n ≡ 0 + n
    same = omega arith

pub records_add_up : RecordsAddUp
records_add_up v s low n column p host place places cell on = let table : Rows = table_seen (knows v s) in
    pieces_join (λ a b. sum_of (between place a b table) column) (empty_part place table column) low n (λ i j k a b c d. total_split (number_at column) place table i j k b c)
    ∙ same_sum (λ i. sum_of (between place i (i + 1) table) column) (λ i. unwrap_or (cell i) 0) low n
    (λ i above below. let h = on i above below in total_on v s p host place places (number_at column) i h.0 h.1 ∙ sym (number_weight column h.0 (cell i) h.2))

hosted_on : (v w : View) (s : ℕ) → Watched v w s → hosts v s ≡ true → hosts w s ≡ true
hosted_on v w s watched host = ap (λ (hs : List Bool). slice_index_or hs s false) watched.learns.hosted ∙ host

row_before : (v w : View) (s rec : ℕ) → Possible v → Possible w → hosts v s ≡ true → (knows v s).is_open ≡ true → Watched v w s → (row : Option (List Cell)) → IsRowOn (knows w s) rec row → IsRowOn (knows v s) rec row
row_before v w s rec p q host is_on watched (Some row) on = let kept = watchers_keep v w s p host is_on watched in
    let at : row_of (table_seen (knows v s)) on.0 ≡ Some row = ap (λ (table : Rows). row_of table on.0) (sym (same_table (knows v s) (knows w s) kept.alike)) ∙ on.2 in
    let has : HasKey (knows v s).facts (place_of v s p host is_on on.0) on.0 = places_of v s p host is_on on.0 row at in
    (on.0, subst (λ (n : ℕ). HasKey (knows v s).facts n on.0) (one_record w s q (hosted_on v w s watched host) (place_of v s p host is_on on.0) rec on.0 (has.0, kept.facts (IndexAt has.0 (place_of v s p host is_on on.0) on.0) has.1) on.1) has, at)
row_before v w s rec p q host is_on watched None on = let kept = watchers_keep v w s p host is_on watched in
    λ key has. ap (λ (table : Rows). row_of table key) (sym (same_table (knows v s) (knows w s) kept.alike)) ∙ on key (has.0, kept.facts (IndexAt has.0 rec key) has.1)

pub cells_stay : CellsStay
cells_stay v w s rec column cell p q host is_on watched on = (on.0, row_before v w s rec p q host is_on watched on.0 on.1, on.2)

pub rows_have_places : RowsHavePlaces
rows_have_places v s p host is_on = (place_of v s p host is_on, places_of v s p host is_on, all_rows v s p host (place_of v s p host is_on) (places_of v s p host is_on))

pub places_agree : PlacesAgree
places_agree w s t k j p host hosted more further same place other places others key row at = let h = others key row at in let g = places key row (ap (λ (table : Rows). row_of table key) (sym same) ∙ at) in
    subst (λ (n : ℕ). HasKey j.facts n key) (same_record w t p hosted s host (other key) (place key) key (h.0, further (IndexAt h.0 (other key) key) h.1) (g.0, more (IndexAt g.0 (place key) key) g.1)) h
