-- Entries of which each adds its value: 0 at a record that was walked.
use Rattle.std.proofs.Common.{◌≡◌, ℕ, zero, suc, ◌+◌, ◌<◌, ◌≤◌, List, [], ◌∷◌, Bool, true, cond, length, sum, take, slice_index, refl, sym, subst, ap, ◌∙◌, arith}
use Rattle.std.specs.Prelude.{slice_set}
use mathlib.Core.Logic.{dite}
use native.Mathlib.Decide.{ℕ_discrete}
use Rattle.std.proofs.lemmas.List.{take_more, take_all, get_or-set_same, get_or-set_other}
use Rattle.std.proofs.lemmas.List.Sums.{sum_by-cons, sum_by-append}
use Rattle.lst_kernel.specs.Entries.{is_seen, lane_of}
use Rattle.lst_scan.specs.Paged.{AddsAll, entries_add}
use Rattle.lst_scan.proofs.Sheets.{add_none, add_more, lane_none}

-- the records before `slot` are dealt with: what the entries add is what they did with the first values, and where all were present, each adds its value
pub record Adds (begin slot : ℕ) (first : List ℕ) (present : Bool) (times values : List ℕ) : Type 0 where
  pub lanes : (i : ℕ) → lane_of begin (slice_index values i) (slice_index times i) ≡ lane_of begin (slice_index first i) (slice_index times i)
  pub all : present ≡ true → (i : ℕ) → i < slot → lane_of begin (slice_index values i) (slice_index times i) ≡ slice_index values i

pub adds_first : (begin : ℕ) (first : List ℕ) (present : Bool) (times : List ℕ) → Adds begin 0 first present times first
adds_first begin first present times = record { lanes = λ i. refl; all = λ there i low. absurd (omega arith) }

-- the page tells of a record
pub adds_told : (begin slot : ℕ) (first : List ℕ) (present : Bool) (times values more_times more_values : List ℕ) → more_times ≡ times → more_values ≡ values → (present ≡ true → is_seen begin (slice_index times slot) ≡ true)
    → Adds begin slot first present times values → Adds begin (slot + 1) first present more_times more_values
adds_told begin slot first present times values more_times more_values e f seen adds = subst (λ (ts : List ℕ). Adds begin (slot + 1) first present ts more_values) (sym e) (subst (λ (vs : List ℕ). Adds begin (slot + 1) first present times vs) (sym f) record {
  lanes = adds.lanes;
  all = λ there i low. dite (ℕ_discrete i slot)
      (λ same. subst (λ (j : ℕ). lane_of begin (slice_index values j) (slice_index times j) ≡ slice_index values j) (sym same) (ap (λ (b : Bool). cond b (slice_index values slot) 0) (seen there)))
      (λ other. adds.all there i (omega arith));
})

-- a record is walked
module _ (begin slot : ℕ) (first : List ℕ) (present : Bool) (times values : List ℕ) (in_times : slot < length times) (in_values : slot < length values) (adds : Adds begin slot first present times values) where
  abbrev put_times : List ℕ
  put_times = slice_set times slot 0

  abbrev put_values : List ℕ
  put_values = slice_set values slot 0

  here : slice_index (slice_set times slot 0) slot ≡ 0
  here = get_or-set_same times slot 0 0 in_times

  lanes_put : (i : ℕ) → lane_of begin (slice_index (slice_set values slot 0) i) (slice_index (slice_set times slot 0) i) ≡ lane_of begin (slice_index first i) (slice_index (slice_set times slot 0) i)
  lanes_put i = dite (ℕ_discrete i slot)
      (λ same. subst (λ (j : ℕ). lane_of begin (slice_index put_values j) (slice_index put_times j) ≡ lane_of begin (slice_index first j) (slice_index put_times j)) (sym same)
      (subst (λ (w : ℕ). lane_of begin (slice_index put_values slot) w ≡ lane_of begin (slice_index first slot) w) (sym here) (lane_none begin (slice_index put_values slot) ∙ sym (lane_none begin (slice_index first slot)))))
      (λ other. subst (λ (w : ℕ). lane_of begin (slice_index put_values i) w ≡ lane_of begin (slice_index first i) w) (sym (get_or-set_other times slot i 0 0 (omega arith)))
      (subst (λ (v : ℕ). lane_of begin v (slice_index times i) ≡ lane_of begin (slice_index first i) (slice_index times i)) (sym (get_or-set_other values slot i 0 0 (omega arith))) (adds.lanes i)))

  all_put : present ≡ true → (i : ℕ) → i < slot + 1 → lane_of begin (slice_index (slice_set values slot 0) i) (slice_index (slice_set times slot 0) i) ≡ slice_index (slice_set values slot 0) i
  all_put there i low = dite (ℕ_discrete i slot)
      (λ same. subst (λ (j : ℕ). lane_of begin (slice_index put_values j) (slice_index put_times j) ≡ slice_index put_values j) (sym same)
      (subst (λ (w : ℕ). lane_of begin (slice_index put_values slot) w ≡ slice_index put_values slot) (sym here) (lane_none begin (slice_index put_values slot) ∙ sym (get_or-set_same values slot 0 0 in_values))))
      (λ other. subst (λ (w : ℕ). lane_of begin (slice_index put_values i) w ≡ slice_index put_values i) (sym (get_or-set_other times slot i 0 0 (omega arith)))
      (subst (λ (v : ℕ). lane_of begin v (slice_index times i) ≡ v) (sym (get_or-set_other values slot i 0 0 (omega arith))) (adds.all there i (omega arith))))

pub adds_put : (begin slot : ℕ) (first : List ℕ) (present : Bool) (times values more_times more_values : List ℕ) → slot < length times → slot < length values → more_times ≡ slice_set times slot 0 → more_values ≡ slice_set values slot 0
    → Adds begin slot first present times values → Adds begin (slot + 1) first present more_times more_values
adds_put begin slot first present times values more_times more_values a b e f adds = subst (λ (ts : List ℕ). Adds begin (slot + 1) first present ts more_values) (sym e) (subst (λ (vs : List ℕ). Adds begin (slot + 1) first present (slice_set times slot 0) vs) (sym f) record {
  lanes = lanes_put begin slot first present times values a b adds;
  all = all_put begin slot first present times values a b adds;
})

-- ---- all records

pub adds_same : (begin slot : ℕ) (first : List ℕ) (present : Bool) (times values : List ℕ) → Adds begin slot first present times values → (n : ℕ) → entries_add begin (slice_index values) times n ≡ entries_add begin (slice_index first) times n
adds_same begin slot first present times values adds zero = add_none begin (slice_index values) times ∙ sym (add_none begin (slice_index first) times)
adds_same begin slot first present times values adds (suc n) = let next : suc n ≡ n + 1 = omega arith in
    ap (λ (m : ℕ). entries_add begin (slice_index values) times m) next ∙ (add_more begin (slice_index values) times n ∙ ((λ j. adds_same begin slot first present times values adds n j + adds.lanes n j)
    ∙ (sym (add_more begin (slice_index first) times n) ∙ ap (λ (m : ℕ). entries_add begin (slice_index first) times m) (sym next))))

-- the sum of all values
module _ (begin : ℕ) (values times : List ℕ) (wide : length values ≡ 256) (all : AddsAll begin values times) where
  sum_up_to : (i : ℕ) → i ≤ 256 → sum (take i values) ≡ entries_add begin (slice_index values) times i
  sum_up_to zero few = sym (add_none begin (slice_index values) times)
  sum_up_to (suc i) few = let next : suc i ≡ i + 1 = omega arith in let x = slice_index values i in
      let one : sum (x ∷ []) ≡ x = sum_by-cons (λ (w : ℕ). w) x [] ∙ (omega arith) in
      let both : sum (take (i + 1) values) ≡ sum (take i values) + sum (x ∷ []) = ap sum (take_more values i 0 (omega arith)) ∙ sum_by-append (λ (w : ℕ). w) (take i values) (x ∷ []) in
      let before = sum_up_to i (omega arith) in let lane = all i (omega arith) in
      ap (λ (m : ℕ). sum (take m values)) next ∙ (both ∙ ((λ j. before j + (one ∙ sym lane) j) ∙ (sym (add_more begin (slice_index values) times i) ∙ ap (λ (m : ℕ). entries_add begin (slice_index values) times m) (sym next))))

  pub values_added : sum values ≡ entries_add begin (slice_index values) times 256
  values_added = ap sum (sym (take_all 256 values (omega arith))) ∙ sum_up_to 256 (omega arith)
