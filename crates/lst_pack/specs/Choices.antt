-- Which forms what was found leaves, and which of them is chosen.
use Rattle.std.specs.Prelude.{◌≡◌, ℕ, ◌+◌, ◌/◌, ◌^◌, ◌<◌, ◌≤◌, ◌⊎◌, List, slice_index}
use Rattle.lst_pack.specs.declared.forms.Form.{Form}
use Rattle.lst_pack.specs.declared.forms.Form.TheVariants.{Constant, Dictionary, Runs, Reference, Plain}
use Rattle.lst_pack.specs.Forms.{IsWidth}
use Rattle.lst_pack.specs.Counts.{IsLeast}
use Rattle.lst_pack.specs.Chosen.{IsAtMost}

-- the least width that holds the difference, or 64 where none of the six does
pub record IsLeastWidth (difference width : ℕ) : Type 0 where
  pub least : (other : ℕ) → IsWidth other → difference < 2 ^ other → width ≤ other
  pub holds : (IsWidth width × (difference < 2 ^ width) × ((width ≡ 1) ⊎ (2 ^ (width / 2) ≤ difference))) ⊎ (width ≡ 64)

-- the base is the least of the values, and the width the least that holds their differences from it
pub record IsFrame (values : List ℕ) (base width : ℕ) : Type 0 where
  pub whole : IsWidth width
  pub least : IsLeast values 256 base
  pub holds : (place : ℕ) → place < 256 → slice_index values place < base + 2 ^ width
  pub narrow : (width ≡ 1) ⊎ ((place : ℕ) × (place < 256) × (base + 2 ^ (width / 2) ≤ slice_index values place))

-- a form that may stand for values with this many runs and distinct values, and this least width
abbrev pub MayStand : ℕ → ℕ → ℕ → Form → Type 0
MayStand runs distinct width Constant = runs ≡ 1
MayStand runs distinct width (Dictionary size) = (distinct ≤ size) × (size ≤ 16)
MayStand runs distinct width (Runs others) = (runs ≤ others) × (others ≤ 128)
MayStand runs distinct width (Reference other) = (width ≤ other) × IsWidth other
MayStand runs distinct width Plain = Unit {0}

-- the form with the very numbers that were found
abbrev pub IsFound : ℕ → ℕ → ℕ → Form → Type 0
IsFound runs distinct width Constant = runs ≡ 1
IsFound runs distinct width (Dictionary size) = (size ≡ distinct) × (size ≤ 16)
IsFound runs distinct width (Runs others) = (others ≡ runs) × (others ≤ 128)
IsFound runs distinct width (Reference other) = (other ≡ width) × (other ≤ 32)
IsFound runs distinct width Plain = Unit {0}

-- of all forms that may stand the one with the fewest words
pub record IsChoice (runs distinct width : ℕ) (form : Form) : Type 0 where
  pub found : IsFound runs distinct width form
  pub fewest : (other : Form) → MayStand runs distinct width other → IsAtMost form other
