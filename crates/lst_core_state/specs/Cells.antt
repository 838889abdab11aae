-- The words of a tail, and what they say. A tail's number counts the tails of its range, from 1 on; its identifier counts through
-- all ranges.
use Rattle.std.specs.Prelude.{◌≡◌, ◌⊎◌, ℕ, zero, suc, ◌+◌, ◌-◌, ◌*◌, ◌/◌, ◌%◌, ◌^◌, ◌<◌, List, [], ◌∷◌, Bool, true, false, cond, not, eqb, ◌&&◌}
use Rattle.lst_layout.specs.declared.limits.Limits.{Limits}
use Rattle.lst_layout.specs.Addresses.{tail_identifier}
pub use Rattle.lst_bits.specs.Encodings.{mask_of, slot_of, nulls_of, has_number}
use Rattle.lst_bits.specs.Encodings.{code_of}
use Rattle.lst_model.specs.declared.acts.Act.{Act}
use Rattle.lst_model.specs.declared.acts.Act.TheVariants.{Put, Set, Del}
pub use Rattle.lst_model.specs.Cells.{has_bit, patched}
use Rattle.lst_model.specs.Cells.{Cell, cells_of}

-- records and tails of a store
abbrev pub record_count : Limits → ℕ
record_count l = 256 * l.ranges

abbrev pub tail_count : Limits → ℕ
tail_count l = l.ranges * l.tails

-- a record's range
abbrev pub range_of : ℕ → ℕ
range_of r = r / 256

-- a tail's range
unfoldable pub tail_range : ℕ → ℕ → ℕ
tail_range tails t = (t - 1) / tails

-- the identifier of the tail with this number in the range, and 0 for 0
unfoldable pub tail_at : ℕ → ℕ → ℕ → ℕ
tail_at tails range n = cond (eqb n 0) 0 (tail_identifier tails range n)

-- the code of the kind in an encoding word: 1 a put, 2 a set, 3 a delete
abbrev pub kind_of : ℕ → ℕ
kind_of e = code_of e

-- n words from a place on
abbrev pub listed : (ℕ → ℕ) → ℕ → ℕ → List ℕ
listed word p zero = []
listed word p (suc n) = word p ∷ listed word (suc p) n

-- what a write of this kind, a put, a set or a delete, does with the cells that the mask names
abbrev pub act_with : ℕ → ℕ → List Cell → Act
act_with kind mask cells = cond (eqb kind 1) (Put cells) (cond (eqb kind 2) (Set (patched mask 0 cells)) Del)

-- what an encoding word and the values say is done to the row
unfoldable pub act_of : ℕ → List ℕ → Act
act_of e values = act_with (kind_of e) (mask_of e) (cells_of (nulls_of e) 0 values)

-- a tail's record
unfoldable pub record_of : ℕ → ℕ → ℕ → ℕ
record_of tails t e = 256 * tail_range tails t + slot_of e

-- under an encoding word a column that is null is one that the mask names, and the value of a column that is null, or that the
-- mask leaves out, is 0
pub record IsColumn (e c value : ℕ) : Type 0 where
  pub within : has_bit (nulls_of e) c ≡ true → has_bit (mask_of e) c ≡ true
  pub null : has_bit (nulls_of e) c ≡ true → value ≡ 0
  pub else : has_bit (mask_of e) c ≡ false → value ≡ 0

-- a put has all columns, a delete none, a set at least one; no column is null but those that there are
pub record IsCell (columns e : ℕ) (values : ℕ → ℕ) : Type 0 where
  pub nulls : nulls_of e < 2 ^ columns
  pub kind : ((kind_of e ≡ 1) × (mask_of e ≡ 2 ^ columns - 1)) ⊎ (((kind_of e ≡ 2) × (0 < mask_of e) × (mask_of e < 2 ^ columns)) ⊎ ((kind_of e ≡ 3) × (mask_of e ≡ 0)))
  pub each : (c : ℕ) → c < columns → IsColumn e c (values c)
