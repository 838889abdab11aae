-- Records that a page tells of.
use Rattle.std.proofs.Common.{◌≡◌, ℕ, zero, suc, ◌+◌, ◌*◌, ◌/◌, ◌<◌, ◌≤◌, List, true, cond, slice_index, refl, sym, subst, ap, ◌∙◌, arith}
use Rattle.std.specs.Prelude.{Option, Some, None, slice_set}
use Rattle.std.proofs.lemmas.List.{get_or-set_other}
use Rattle.lst_layout.specs.declared.TheConstants.{RANGE_RECORDS}
use Rattle.lst_kernel.specs.Entries.{lane_of}
use Rattle.lst_bits.specs.Times.{time_of, is_present}
use Rattle.lst_model.specs.Cells.{Cell, number_at}
use Rattle.lst_rule.specs.declared.runs.Run.TheVariants.{Heads}
use Rattle.lst_rule.specs.declared.view.View.{View}
use Rattle.lst_rule.specs.declared.store.Store.{Store}
use Rattle.lst_rule.specs.Rule.{knows, hosts}
use Rattle.lst_rule.specs.Learned.{Possible}
use Rattle.lst_rule.specs.Seats.{Sitting}
use Rattle.lst_rule.specs.Runs.{LoadsRun}
use Rattle.lst_walk.specs.Readers.{IsReader}
use Rattle.lst_walk.specs.Patches.{cell_in}
use Rattle.lst_scan.specs.Scans.{IsRowOn}
use Rattle.lst_scan.specs.Paged.{HasPage, HasValues, entries_add}
use Rattle.lst_scan.proofs.Seeing.{weight_of}
use Rattle.lst_scan.proofs.Sheets.{Covers, covers_none, covers_next, add_none, add_more, told_values, told_packed, told_cell, told_number, told_row}

-- one more record, whose time word stands: it adds what its entry does
pub covers_told : (v : View) (s : ℕ) (weight : List Cell → ℕ) (low n number begin : ℕ) (value : ℕ → ℕ) (times : List ℕ) → Possible v → hosts v s ≡ true → (row : Option (List Cell)) → IsRowOn (knows v s) (low + n) row
    → lane_of begin (value n) (slice_index times n) ≡ weight_of weight row → Covers v s weight low n (number + entries_add begin value times n) → Covers v s weight low (n + 1) (number + entries_add begin value times (n + 1))
covers_told v s weight low n number begin value times p host row on told covers = let more : entries_add begin value times (n + 1) ≡ entries_add begin value times n + lane_of begin (value n) (slice_index times n) = add_more begin value times n in
    let same : (number + entries_add begin value times n) + lane_of begin (value n) (slice_index times n) ≡ number + entries_add begin value times (n + 1) = omega arith in
    subst (λ (m : ℕ). Covers v s weight low (n + 1) m) same (covers_next v s weight low n (number + entries_add begin value times n) (lane_of begin (value n) (slice_index times n)) p host row on told covers)

-- the same number and time words
pub covers_same : (v : View) (s : ℕ) (weight : List Cell → ℕ) (low n number more begin : ℕ) (value : ℕ → ℕ) (times same : List ℕ) → more ≡ number → same ≡ times → Covers v s weight low n (number + entries_add begin value times n) → Covers v s weight low n (more + entries_add begin value same n)
covers_same v s weight low n number more begin value times same e f covers = subst (λ (m : ℕ). Covers v s weight low n (m + entries_add begin value same n)) (sym e) (subst (λ (xs : List ℕ). Covers v s weight low n (number + entries_add begin value xs n)) (sym f) covers)

module _ (store : Store) (h : Sitting) (s range column tps : ℕ) (stamps : List ℕ) (p : Possible h.view) (reader : IsReader store h s) (low : range < store.layout.limits.ranges) (short : column < store.layout.limits.columns) (page : HasPage h.view s range column tps stamps)
    (heads : ℕ → ℕ) (w : View) (run : LoadsRun (Heads range) heads h.view s RANGE_RECORDS w) where
  -- ---- a record whose newest version the page has

  module _ (i : ℕ) (few : i < RANGE_RECORDS) (folded : heads i / 2 ≤ tps) (early : time_of (slice_index stamps i) ≤ (knows h.view s).begin) where
    -- the number that its entry adds to a sum
    pub number_told : (values : List ℕ) → HasValues page values
        → (row : Option (List Cell)) × IsRowOn (knows h.view s) (256 * range + i) row × (lane_of (knows h.view s).begin (slice_index values i) (slice_index stamps i) ≡ weight_of (number_at column) row)
    number_told values has = let on = told_cell store h s range column tps stamps p reader low short page heads w run i few folded early in
        let others : List ℕ = told_values store h s range column tps stamps p reader low short page heads w run i few folded early in
        let same : values ≡ others = has others (told_packed store h s range column tps stamps p reader low short page heads w run i few folded early) in (
          on.0,
          on.1,
          told_number column (knows h.view s).begin (slice_index values i) (slice_index stamps i) on.0 early
              (subst (λ (vs : List ℕ). cond (is_present (slice_index stamps i)) (Some (slice_index vs i)) None ≡ cell_in column on.0) (sym same) on.2),
        )

    -- and the one that it adds to a count
    pub one_told : (row : Option (List Cell)) × IsRowOn (knows h.view s) (256 * range + i) row × (lane_of (knows h.view s).begin 1 (slice_index stamps i) ≡ weight_of (λ _. 1) row)
    one_told = let on = told_cell store h s range column tps stamps p reader low short page heads w run i few folded early in
        let others : List ℕ = told_values store h s range column tps stamps p reader low short page heads w run i few folded early in
        (on.0, on.1, told_row column (knows h.view s).begin (slice_index others i) (slice_index stamps i) on.0 early on.2)

  -- ---- the page has those of all records

  module _ (all : (i : ℕ) → i < 256 → (heads i / 2 ≤ tps) × (time_of (slice_index stamps i) ≤ (knows h.view s).begin)) where
    pub numbers_told : (values : List ℕ) → HasValues page values → (n : ℕ) → n ≤ 256 → Covers h.view s (number_at column) (256 * range) n (0 + entries_add (knows h.view s).begin (slice_index values) stamps n)
    numbers_told values has zero most = subst (λ (m : ℕ). Covers h.view s (number_at column) (256 * range) 0 (0 + m)) (sym (add_none (knows h.view s).begin (slice_index values) stamps)) (covers_none h.view s (number_at column) (256 * range))
    numbers_told values has (suc n) most = let next : n + 1 ≡ suc n = omega arith in let both = all n (omega arith) in let told = number_told n (omega arith) both.0 both.1 values has in
        subst (λ (m : ℕ). Covers h.view s (number_at column) (256 * range) m (0 + entries_add (knows h.view s).begin (slice_index values) stamps m)) next
        (covers_told h.view s (number_at column) (256 * range) n 0 (knows h.view s).begin (slice_index values) stamps p reader.host told.0 told.1 told.2 (numbers_told values has n (omega arith)))

    pub ones_told : (n : ℕ) → n ≤ 256 → Covers h.view s (λ _. 1) (256 * range) n (0 + entries_add (knows h.view s).begin (λ (slot : ℕ). 1) stamps n)
    ones_told zero most = subst (λ (m : ℕ). Covers h.view s (λ _. 1) (256 * range) 0 (0 + m)) (sym (add_none (knows h.view s).begin (λ (slot : ℕ). 1) stamps)) (covers_none h.view s (λ _. 1) (256 * range))
    ones_told (suc n) most = let next : n + 1 ≡ suc n = omega arith in let both = all n (omega arith) in let told = one_told n (omega arith) both.0 both.1 in
        subst (λ (m : ℕ). Covers h.view s (λ _. 1) (256 * range) m (0 + entries_add (knows h.view s).begin (λ (slot : ℕ). 1) stamps m)) next
        (covers_told h.view s (λ _. 1) (256 * range) n 0 (knows h.view s).begin (λ (slot : ℕ). 1) stamps p reader.host told.0 told.1 told.2 (ones_told n (omega arith)))

-- a time word that no turn has come to stands
abbrev pub Stands : ℕ → List ℕ → List ℕ → Type 0
Stands slot stamps times = (k : ℕ) → slot ≤ k → slice_index times k ≡ slice_index stamps k

pub stands_first : (times : List ℕ) → Stands 0 times times
stands_first times k low = refl

-- as the next one stays
pub stands_told : (slot : ℕ) (stamps times more : List ℕ) → more ≡ times → Stands slot stamps times → Stands (slot + 1) stamps more
stands_told slot stamps times more same stands k low = ap (λ (xs : List ℕ). slice_index xs k) same ∙ stands k (omega arith)

-- as it is put
pub stands_put : (slot x : ℕ) (stamps times more : List ℕ) → more ≡ slice_set times slot x → Stands slot stamps times → Stands (slot + 1) stamps more
stands_put slot x stamps times more put stands k low = ap (λ (xs : List ℕ). slice_index xs k) put ∙ (get_or-set_other times slot k x 0 (omega arith) ∙ stands k (omega arith))
