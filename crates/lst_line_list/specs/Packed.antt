-- A patch as numbers: one for each column, which is 0 where the column stays as it is or becomes null, and the bits of the columns that are set, and of
-- those that become null.
use Rattle.std.specs.Prelude.{◌≡◌, ◌≤◌, ℕ, List, Option, length, map}
use Rattle.lst_model.specs.Cells.{Cell, cells_of, patched, bits_to_null, bits_set, changed_number}

abbrev pub patch_of : ℕ → ℕ → List ℕ → List (Option Cell)
patch_of set nulls numbers = patched set 0 (cells_of nulls 0 numbers)

-- the bits and the numbers are those of this patch, of at most eight columns
pub record ArePacked (set nulls : ℕ) (numbers : List ℕ) (patch : List (Option Cell)) : Type 0 where
  pub sets : set ≡ bits_set patch
  pub null : nulls ≡ bits_to_null patch
  pub are : numbers ≡ map changed_number patch
  pub few : length patch ≤ 8
