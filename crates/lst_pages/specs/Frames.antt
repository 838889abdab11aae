-- What the words of a frame say: a TPS, and for each record of the range a value, a null bit and a time word. The values are packed.
use Rattle.std.specs.Prelude.{◌≡◌, ℕ, ◌+◌, ◌<◌, List, cond, Some, None, slice_index}
use Rattle.lst_layout.specs.declared.TheConstants.{RANGE_RECORDS, FRAME_VALUES}
use Rattle.lst_layout.specs.Frames.{lineage_place, time_place, null_place, null_bit}
use Rattle.lst_bits.specs.Times.{time_of, is_present}
use Rattle.lst_model.specs.Cells.{Cell, number_of, cell_of}
use Rattle.lst_pack.specs.Forms.{Packs}
use Rattle.lst_pages.specs.declared.entries.Entry.{Entry}
use Rattle.lst_pages.specs.Lists.{listed}

abbrev pub tps_in : (ℕ → ℕ) → ℕ
tps_in words = words lineage_place

-- the words of packed values: one more than there are records. Those past the form that stands there may hold anything
abbrev pub packed_in : (ℕ → ℕ) → List ℕ
packed_in words = listed words FRAME_VALUES (RANGE_RECORDS + 1)

abbrev pub stamp_in : (ℕ → ℕ) → ℕ → ℕ
stamp_in words i = words (time_place i)

-- the cell at slot i with this value, null where the slot's null bit is set
abbrev pub cell_in : (ℕ → ℕ) → ℕ → ℕ → Cell
cell_in words value i = cell_of (words (null_place i)) (null_bit i) value

-- the entry at slot i with this value; of an absent one neither the value nor the null bit is read
abbrev pub entry_in : (ℕ → ℕ) → ℕ → ℕ → Entry
entry_in words value i = record { cell = cond (is_present (stamp_in words i)) (Some (cell_in words value i)) None; time = time_of (stamp_in words i) }

-- the words with this value say this entry at slot i, and the value is the number of the entry's cell: 0 for null
pub record IsEntry (words : ℕ → ℕ) (value i : ℕ) (entry : Entry) : Type 0 where
  pub told : entry_in words value i ≡ entry
  pub number : (cell : Cell) → entry.cell ≡ Some cell → value ≡ number_of cell

-- the words say these entries, with the values for which the packed words stand. So the values of the present entries, which a sum
-- adds, are the numbers of their cells
pub record HasEntries (words : ℕ → ℕ) (entries : ℕ → Entry) : Type 0 where
  pub values : List ℕ
  pub packed : Packs (packed_in words) values
  pub each : (i : ℕ) → i < RANGE_RECORDS → IsEntry words (slice_index values i) i (entries i)
