-- What the act of a version that is seen does.
use Rattle.std.proofs.Common.{[], ◌∷◌, zero, suc, ◌≡◌, ◌≢◌, ℕ, ◌/◌, ◌%◌, ◌^◌, ◌<◌, List, Bool, true, false, cond, length, map, get_or, sym, subst, ap, ◌∙◌, arith, eq-eqb, ne_eqb}
use Rattle.std.specs.Prelude.{Option, None, Some, is_some, slice_index, slice_get}
use Rattle.std.specs.List.{list_all}
use Rattle.std.specs.Int.{bit_at}
use Rattle.lst_layout.specs.declared.limits.Limits.{Limits}
use Rattle.lst_bits.specs.declared.encodings.Encoding.{Encoding}
use Rattle.lst_bits.specs.declared.encodings.Kind.{Kind}
use Rattle.lst_bits.specs.declared.encodings.Kind.TheVariants as kinds
use Rattle.lst_model.specs.declared.acts.Act.{Act}
use Rattle.lst_model.specs.declared.acts.Act.TheVariants.{Set}
use Rattle.lst_model.specs.Histories.{row_after}
use Rattle.lst_model.specs.Cells.{Cell, number_of, number_at, cells_of, patched, has_bit}
use Rattle.lst_model.specs.CellLaws.{length-cells_of}
use Rattle.lst_model.specs.Soundness.{Fits}
use Rattle.lst_bits.specs.Encodings.{kind_code, encoding_of}
use Rattle.lst_pages.specs.Tails.{touches_column}
use Rattle.lst_walk.specs.Pages.{touches_by}
use Rattle.lst_core_state.specs.Cells.{act_with}
use Rattle.lst_rule.specs.declared.view.View.{View}
use Rattle.lst_rule.specs.Copies.{Version}
use Rattle.lst_rule.specs.Seen.{act_by}
use Rattle.lst_walk.specs.Readers.{IsAt}
use Rattle.lst_walk.specs.Patches.{merged, cell_in}
use Rattle.lst_walk.specs.Walks.{Acted, Told}
use Rattle.lst_walk.specs.declared.rows.Visit.TheVariants.{Row, NoRow, Older}
use Rattle.lst_walk.proofs.Lists.{set_twice, whole_row, length-merged, length-patched, patched_first, number_here, cell_set, cell_unset, merged_none, patched_none, none_some}
use Rattle.lst_walk.proofs.Chains.{set_fits}

-- bits of a mask
pub bit_set : (mask column : ℕ) → bit_at mask column ≡ 1 → has_bit mask column ≡ true
bit_set mask column is = eq-eqb (mask / 2 ^ column % 2) 1 is

pub bit_clear : (mask column : ℕ) → bit_at mask column ≢ 1 → has_bit mask column ≡ false
bit_clear mask column is = ne_eqb (mask / 2 ^ column % 2) 1 is

pub columns_of : (l : Limits) (v : View) (s tail : ℕ) (d : Version) → v.limits ≡ l → IsAt v s tail d → length d.values ≡ l.columns
columns_of l v s tail d is at = at.is.wide ∙ ap (λ (k : Limits). k.columns) is

module _ (d : Version) (e : Encoding) (act : act_by d ≡ act_with (kind_code e.kind) e.mask (cells_of e.nulls 0 d.values)) where
  abbrev cells : List Cell
  cells = cells_of e.nulls 0 d.values

  width : length (cells_of e.nulls 0 d.values) ≡ length d.values
  width = length-cells_of e.nulls 0 d.values

  kind_act : (k : Kind) → e.kind ≡ k → act_by d ≡ act_with (kind_code k) e.mask (cells_of e.nulls 0 d.values)
  kind_act k is = act ∙ ap (λ (j : Kind). act_with (kind_code j) e.mask cells) is

  cell_at : (column : ℕ) → column < length d.values → slice_get (patched e.mask 0 (cells_of e.nulls 0 d.values)) column ≡ Some (cond (has_bit e.mask column) (Some (get_or (cells_of e.nulls 0 d.values) column None)) None)
  cell_at column low = patched_first e.mask cells column (let w = width in omega arith)

  pub put_acted : (columns : ℕ) (patch : List (Option Cell)) → e.kind ≡ kinds.Put → Acted d columns patch patch (Row e.nulls)
  put_acted columns patch kind older wide fits = ap (λ (a : Act). row_after (row_after older a) (Set patch)) (kind_act kinds.Put kind)

  pub del_acted : (columns : ℕ) (patch more : List (Option Cell)) → e.kind ≡ kinds.Del → Acted d columns patch more NoRow
  del_acted columns patch more kind older = ap (λ (a : Act). row_after (row_after older a) (Set patch)) (kind_act kinds.Del kind)

  pub set_acted : (columns : ℕ) (patch more : List (Option Cell)) → e.kind ≡ kinds.Set → length patch ≡ columns → length d.values ≡ columns → more ≡ merged patch (patched e.mask 0 (cells_of e.nulls 0 d.values)) → Acted d columns patch more Older
  set_acted columns patch more kind wide values is older = ap (λ (a : Act). row_after (row_after older a) (Set patch)) (kind_act kinds.Set kind)
      ∙ (set_twice older patch (patched e.mask 0 cells) (wide ∙ sym (length-patched e.mask 0 cells ∙ (width ∙ values))) ∙ ap (λ (q : List (Option Cell)). row_after older (Set q)) (sym is))

  -- the set is of a row, of which no cell is left
  pub set_whole : (columns : ℕ) (patch more : List (Option Cell)) → e.kind ≡ kinds.Set → length patch ≡ columns → length d.values ≡ columns → more ≡ merged patch (patched e.mask 0 (cells_of e.nulls 0 d.values)) → list_all is_some more ≡ true → Acted d columns patch more (Row e.nulls)
  set_whole columns patch more kind wide values is all older has fits = set_acted columns patch more kind wide values is older
      ∙ whole_row columns older cells more has (width ∙ values) (ap length is ∙ (length-merged patch (patched e.mask 0 cells) ∙ wide)) (set_fits older (patched e.mask 0 cells) (subst (λ (a : Act). Fits older a) (kind_act kinds.Set kind) fits)) all

  module _ (numbers : map number_of (cells_of e.nulls 0 d.values) ≡ d.values) where
    number_is : (column : ℕ) → number_at column (cells_of e.nulls 0 d.values) ≡ slice_index d.values column
    number_is column = ap (λ (ns : List ℕ). slice_index ns column) numbers

    pub put_told : (columns column x : ℕ) → e.kind ≡ kinds.Put → x ≡ slice_index d.values column → Told d columns column (Some (Some x))
    put_told columns column x kind is older wide fits = ap (λ (a : Act). cell_in column (row_after older a)) (kind_act kinds.Put kind) ∙ ap (λ (n : ℕ). Some n) (number_is column ∙ sym is)

    pub set_told : (columns column x : ℕ) → e.kind ≡ kinds.Set → column < columns → length d.values ≡ columns → has_bit e.mask column ≡ true → x ≡ slice_index d.values column → Told d columns column (Some (Some x))
    set_told columns column x kind low values bit is older wide fits = ap (λ (a : Act). cell_in column (row_after older a)) (kind_act kinds.Set kind)
        ∙ (cell_set older (patched e.mask 0 cells) columns column (get_or cells column None) wide low (set_fits older (patched e.mask 0 cells) (subst (λ (a : Act). Fits older a) (kind_act kinds.Set kind) fits))
        (cell_at column (omega arith) ∙ ap (λ (b : Bool). Some (cond b (Some (get_or cells column None)) None)) bit)
        ∙ ap (λ (n : ℕ). Some n) (number_here cells column (let w = width in omega arith) ∙ (number_is column ∙ sym is)))

  pub del_told : (columns column : ℕ) → e.kind ≡ kinds.Del → Told d columns column (Some None)
  del_told columns column kind older wide fits = ap (λ (a : Act). cell_in column (row_after older a)) (kind_act kinds.Del kind)

  pub set_untold : (columns column : ℕ) → e.kind ≡ kinds.Set → column < columns → length d.values ≡ columns → has_bit e.mask column ≡ false → Told d columns column None
  set_untold columns column kind low values bit older = ap (λ (a : Act). cell_in column (row_after older a)) (kind_act kinds.Set kind)
      ∙ cell_unset older (patched e.mask 0 cells) column (cell_at column (omega arith) ∙ ap (λ (b : Bool). Some (cond b (Some (get_or cells column None)) None)) bit)

-- a column that is still unset was unset, and a set doesn't touch it
pub set_leaves : (d : Version) (e : Encoding) → e ≡ encoding_of d.encoding → (columns : ℕ) (patch more : List (Option Cell)) → e.kind ≡ kinds.Set → length patch ≡ columns → length d.values ≡ columns → more ≡ merged patch (patched e.mask 0 (cells_of e.nulls 0 d.values))
    → (column : ℕ) → slice_get more column ≡ Some None → (slice_get patch column ≡ Some None) × (touches_by column d.encoding ≡ false)
set_leaves d e is columns patch more kind wide values made column none = let cells : List Cell = cells_of e.nulls 0 d.values in let w = length-cells_of e.nulls 0 d.values in let p = length-patched e.mask 0 cells in
    let q = merged_none patch (patched e.mask 0 cells) column (omega arith) (ap (λ xs. slice_get xs column) (sym made) ∙ none) in
    let low : column < length (patched e.mask 0 cells) = get_low (patched e.mask 0 cells) column None q.1 in (
      q.0,
      ap (λ (k : Encoding). touches_column column k.kind k.mask) (sym is) ∙ (ap (λ (k : Kind). touches_column column k e.mask) kind ∙ patched_none e.mask cells column (omega arith) q.1),
    )
  where
    get_low : {A : Type 0} (xs : List A) (k : ℕ) (x : A) → slice_get xs k ≡ Some x → k < length xs
    get_low [] k x at = none_some x at
    get_low (y ∷ xs) zero x at = omega arith
    get_low (y ∷ xs) (suc k) x at = let r = get_low xs k x at in omega arith
