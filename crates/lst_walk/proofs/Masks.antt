-- What a version tells of a column by its bit in the mask.
use Rattle.std.proofs.Common.{◌≡◌, ◌⊎◌, inl, inr, ℕ, ◌^◌, ◌-◌, ◌<◌, true, false, length, map, refl, sym, subst, ap, ◌∙◌, true≢false}
use Rattle.std.specs.Prelude.{None, Some, slice_index}
use Rattle.lst_layout.specs.declared.limits.Limits.{Limits}
use Rattle.lst_bits.specs.declared.encodings.Encoding.{Encoding}
use Rattle.lst_bits.specs.declared.encodings.Kind.{Kind}
use Rattle.lst_bits.specs.declared.encodings.Kind.TheVariants as kinds
use Rattle.lst_bits.specs.Encodings as bits
use Rattle.lst_bits.specs.Encodings.{kind_code, encoding_of, IsMaskOf}
use Rattle.lst_model.specs.Cells.{number_of, cells_of, has_bit}
use Rattle.lst_model.specs.CellLaws.{no_bits}
use Rattle.lst_pages.specs.Tails.{touches_column}
use Rattle.lst_core_state.specs.Cells.{act_with, kind_of, mask_of}
use Rattle.lst_rule.specs.declared.view.View.{View}
use Rattle.lst_rule.specs.Copies.{Version}
use Rattle.lst_rule.specs.Seen.{act_by}
use Rattle.lst_rule.proofs.PostingBits.{full_has}
use Rattle.lst_walk.specs.Readers.{IsAt}
use Rattle.lst_walk.specs.Pages.{touches_by}
use Rattle.lst_walk.specs.Walks.{Told}
use Rattle.lst_walk.proofs.Acting.{put_told, set_told, set_untold}

-- the mask of a version fits its kind
fits_kind : (columns k mask : ℕ) → ((k ≡ 1) × (mask ≡ 2 ^ columns - 1)) ⊎ (((k ≡ 2) × (0 < mask) × (mask < 2 ^ columns)) ⊎ ((k ≡ 3) × (mask ≡ 0))) → IsMaskOf columns (bits.kind_of k) mask
fits_kind columns k mask (inl h) = subst (λ (n : ℕ). IsMaskOf columns (bits.kind_of n) mask) (sym h.0) h.1
fits_kind columns k mask (inr (inl h)) = subst (λ (n : ℕ). IsMaskOf columns (bits.kind_of n) mask) (sym h.0) (h.1, h.2)
fits_kind columns k mask (inr (inr h)) = subst (λ (n : ℕ). IsMaskOf columns (bits.kind_of n) mask) (sym h.0) h.1

pub masked : (l : Limits) (v : View) (s tail : ℕ) (d : Version) (e : Encoding) → v.limits ≡ l → IsAt v s tail d → e ≡ encoding_of d.encoding → IsMaskOf l.columns e.kind e.mask
masked l v s tail d e limits at is = subst (λ (f : Encoding). IsMaskOf l.columns f.kind f.mask) (sym is)
    (subst (λ (k : Limits). IsMaskOf k.columns (encoding_of d.encoding).kind (encoding_of d.encoding).mask) limits (fits_kind v.limits.columns (kind_of d.encoding) (mask_of d.encoding) at.is.cell.kind))

-- a column that the mask holds has the number of the version
pub mask_told : (d : Version) (e : Encoding) → act_by d ≡ act_with (kind_code e.kind) e.mask (cells_of e.nulls 0 d.values) → map number_of (cells_of e.nulls 0 d.values) ≡ d.values → (columns column x : ℕ) → IsMaskOf columns e.kind e.mask
    → column < columns → length d.values ≡ columns → has_bit e.mask column ≡ true → x ≡ slice_index d.values column → Told d columns column (Some (Some x))
mask_told d e act numbers columns column x fits low values bit is = by_kind e.kind refl fits
  where
    by_kind : (k : Kind) → e.kind ≡ k → IsMaskOf columns k e.mask → Told d columns column (Some (Some x))
    by_kind kinds.Put kind full = put_told d e act numbers columns column x kind is
    by_kind kinds.Set kind some = set_told d e act numbers columns column x kind low values bit is
    by_kind kinds.Del kind none = absurd (true≢false (sym bit ∙ (ap (λ (m : ℕ). has_bit m column) none ∙ no_bits column)))

-- a column that it leaves out is left as it is, but by a delete
pub mask_untold : (d : Version) (e : Encoding) → act_by d ≡ act_with (kind_code e.kind) e.mask (cells_of e.nulls 0 d.values) → (columns column : ℕ) → IsMaskOf columns e.kind e.mask
    → column < columns → length d.values ≡ columns → has_bit e.mask column ≡ false → (e.kind ≡ kinds.Put) ⊎ (e.kind ≡ kinds.Set) → Told d columns column None
mask_untold d e act columns column fits low values bit (inl kind) = absurd (true≢false (sym (ap (λ (m : ℕ). has_bit m column) (subst (λ (k : Kind). IsMaskOf columns k e.mask) kind fits) ∙ full_has columns column low) ∙ bit))
mask_untold d e act columns column fits low values bit (inr kind) = set_untold d e act columns column kind low values bit

pub mask_leaves : (d : Version) (e : Encoding) → e ≡ encoding_of d.encoding → (columns column : ℕ) → IsMaskOf columns e.kind e.mask → column < columns → has_bit e.mask column ≡ false → (e.kind ≡ kinds.Put) ⊎ (e.kind ≡ kinds.Set) → touches_by column d.encoding ≡ false
mask_leaves d e is columns column fits low bit (inl kind) = absurd (true≢false (sym (ap (λ (m : ℕ). has_bit m column) (subst (λ (k : Kind). IsMaskOf columns k e.mask) kind fits) ∙ full_has columns column low) ∙ bit))
mask_leaves d e is columns column fits low bit (inr kind) = ap (λ (f : Encoding). touches_column column f.kind f.mask) (sym is) ∙ (ap (λ (k : Kind). touches_column column k e.mask) kind ∙ bit)
