-- A number that an act puts into a column is in the words of the act.
use Rattle.std.proofs.Common.{◌≡◌, ◌⊎◌, ⊎_elim, ℕ, ◌+◌, ◌-◌, ◌^◌, ◌<◌, List, Bool, true, false, cond, not, eqb, ◌&&◌, length, get_or, refl, sym, ap, ◌∙◌, arith, eqb-true, true≢false}
use Rattle.std.specs.Prelude.{Option, Some, None, option_map, slice_get, slice_index}
use Rattle.std.specs.Option.{option_flatten}
use Rattle.lst_model.specs.declared.acts.Act.TheVariants.{Put, Set, Del}
use Rattle.lst_model.specs.Cells.{Cell, cells_of, has_bit, is_number, patched}
use Rattle.lst_model.specs.CellLaws.{cell_at, get-patched}
use Rattle.lst_bits.specs.Encodings.{has_number}
use Rattle.lst_core_state.specs.Cells.{act_of, kind_of, mask_of, nulls_of, IsCell}
use Rattle.lst_second.specs.Candidates.{puts_number}
use Rattle.lst_rule.proofs.PostingBits.{full_has}

-- a cell with this number isn't null
cell_number : (b : Bool) (number value : ℕ) → is_number number (cond b None (Some value)) ≡ true → (b ≡ false) × (value ≡ number)
cell_number true number value e = absurd (true≢false (sym e))
cell_number false number value e = (refl, eqb-true value number e)

-- a change to this number is one that is made
change_number : (b : Bool) (number : ℕ) (cell : Cell) → is_number number (option_flatten (cond b (Some cell) None)) ≡ true → (b ≡ true) × (is_number number cell ≡ true)
change_number true number cell e = (refl, e)
change_number false number cell e = absurd (true≢false (sym e))

module _ (mask nulls column number : ℕ) (values : List ℕ) (low : column < length values) where
  abbrev cells : List Cell
  cells = cells_of nulls 0 values

  abbrev cell : Cell
  cell = cond (has_bit nulls column) None (Some (get_or values column 0))

  put_says : puts_number column number (Put cells) ≡ true → (has_bit nulls column ≡ false) × (get_or values column 0 ≡ number)
  put_says e = cell_number (has_bit nulls column) number (get_or values column 0) (ap (λ (o : Option Cell). is_number number (option_flatten o)) (sym (cell_at nulls values column low)) ∙ e)

  change_at : slice_get (patched mask 0 cells) column ≡ Some (cond (has_bit mask column) (Some cell) None)
  change_at = get-patched mask 0 cells column
      ∙ (ap (option_map (λ (c : Cell). cond (has_bit mask (0 + column)) (Some c) None)) (cell_at nulls values column low)
      ∙ ap (λ (c : ℕ). Some (cond (has_bit mask c) (Some cell) None)) (let e : 0 + column ≡ column = omega arith in e))

  set_says : puts_number column number (Set (patched mask 0 cells)) ≡ true → (has_bit mask column ≡ true) × (has_bit nulls column ≡ false) × (get_or values column 0 ≡ number)
  set_says e = let h = change_number (has_bit mask column) number cell (ap (λ (o : Option (Option Cell)). is_number number (option_flatten (option_flatten o))) (sym change_at) ∙ e) in
      let g = cell_number (has_bit nulls column) number (get_or values column 0) h.1 in (h.0, g.0, g.1)

  says : (put set : Bool) → (put ≡ true → has_bit mask column ≡ true) → puts_number column number (cond put (Put cells) (cond set (Set (patched mask 0 cells)) Del)) ≡ true
      → (has_bit mask column ≡ true) × (has_bit nulls column ≡ false) × (get_or values column 0 ≡ number)
  says true set all e = let h = put_says e in (all refl, h.0, h.1)
  says false true all e = set_says e
  says false false all e = absurd (true≢false (sym e))

-- a put has all columns
put_has : (columns e column : ℕ) (values : ℕ → ℕ) → IsCell columns e values → column < columns → kind_of e ≡ 1 → has_bit (mask_of e) column ≡ true
put_has columns e column values cell low put = ⊎_elim
    (λ (h : (kind_of e ≡ 1) × (mask_of e ≡ 2 ^ columns - 1)). ap (λ (m : ℕ). has_bit m column) h.1 ∙ full_has columns column low)
    (λ (h : ((kind_of e ≡ 2) × (0 < mask_of e) × (mask_of e < 2 ^ columns)) ⊎ ((kind_of e ≡ 3) × (mask_of e ≡ 0))). ⊎_elim
    (λ (g : (kind_of e ≡ 2) × (0 < mask_of e) × (mask_of e < 2 ^ columns)). absurd (let f = g.0 in omega arith))
    (λ (g : (kind_of e ≡ 3) × (mask_of e ≡ 0)). absurd (let f = g.0 in omega arith)) h) cell.kind

-- where the words of a tail say that their act puts a number into a column, they hold the column with this number
pub act_says : (columns e column number : ℕ) (values : List ℕ) (cells : ℕ → ℕ) → IsCell columns e cells → length values ≡ columns → column < columns → puts_number column number (act_of e values) ≡ true → (has_number e column ≡ true) × (slice_index values column ≡ number)
unfolding act_of has_number
act_says columns e column number values cells is wide low puts = let h = says (mask_of e) (nulls_of e) column number values (omega arith) (eqb (kind_of e) 1) (eqb (kind_of e) 2) (λ f. put_has columns e column cells is low (eqb-true (kind_of e) 1 f)) puts in
    ((λ i. h.0 i && not (h.1 i)), h.2)
