-- Chains of versions, newest first, and what the visible ones leave in a column.
use Rattle.std.specs.Prelude.{◌≡◌, ◌⊎◌, ℕ, ◌+◌, ◌<◌, ◌++◌, List, [], ◌∷◌, map, reverse, take, Bool, true, false, cond, eqb, Option, None, Some, option_map, unwrap_or, slice_get}
use Rattle.std.specs.List.{fold, filter, All}
use Rattle.lst_chain.specs.declared.Seen.{Seen}
use Rattle.lst_chain.specs.declared.Seen.TheVariants.{Visible, Hidden}

-- ---- versions oldest first

-- what a column has after a version, where it had `before`. A version that doesn't hold the column leaves what was there.
-- One that holds it puts a value in its place, or none where it deletes
abbrev pub replaced : {A : Type 0} → Option A → Option (Option A) → Option A
replaced before None = before
replaced before (Some held) = held

-- what versions, oldest first, leave in a column that had no value. A version is given by what it holds there
abbrev pub left_by : {A : Type 0} → List (Option (Option A)) → Option A
left_by versions = fold replaced None versions

-- ---- chains

-- what `of` gives of the versions of a chain that the test takes, oldest first
abbrev pub acts : {V A : Type 0} → (V → Bool) → (V → A) → List V → List A
acts test of [] = []
acts test of (version ∷ older) = cond (test version) (acts test of older ++ of version ∷ []) (acts test of older)

abbrev pub is_visible : Seen → Bool
is_visible Visible = true
is_visible Hidden = false

-- what the versions of a chain that a begin sees leave in a column
abbrev pub column_value : {V : Type 0} → (V → ℕ → Seen) → (V → ℕ → Option (Option ℕ)) → ℕ → ℕ → List V → Option ℕ
column_value status explicit begin column chain = left_by (acts (λ v. is_visible (status v begin)) (λ v. explicit v column) chain)

-- a visible version of the chain is at the place, and all newer ones are hidden
pub record IsFirstVisible {V : Type 0} (status : V → ℕ → Seen) (begin : ℕ) (chain : List V) (place : ℕ) : Type 0 where
  pub version : V
  pub at : slice_get chain place ≡ Some version
  pub visible : status version begin ≡ Visible
  pub newer : All (λ v. status v begin ≡ Hidden) (take place chain)

-- ---- cells that may be null
-- a number, or None, which is null
abbrev pub Cell : Type 0
Cell = Option ℕ

-- the columns 8 to 15 are the null flags of the columns 0 to 7
abbrev pub null_column : ℕ → ℕ
null_column column = 8 + column

-- a cell's number, 0 for null, and its null flag
abbrev pub number_of : Cell → ℕ
number_of cell = unwrap_or cell 0

abbrev pub null_flag : Cell → ℕ
null_flag None = 1
null_flag (Some number) = 0

-- versions hold these cells: the number of each in its column, and its null flag exactly where they hold the column
pub record HoldCells {V : Type 0} (explicit : V → ℕ → Option (Option ℕ)) (cells : V → ℕ → Option (Option Cell)) : Type 0 where
  pub numbers : (version : V) (column : ℕ) → column < 8 → explicit version column ≡ option_map (option_map number_of) (cells version column)
  pub flags : (version : V) (column : ℕ) → column < 8 → explicit version (null_column column) ≡ option_map (option_map null_flag) (cells version column)

-- the cell that a column's value and its null flag say
abbrev pub cell_of : Option ℕ → Option ℕ → Option Cell
cell_of None flag = None
cell_of (Some number) None = None
cell_of (Some number) (Some flag) = Some (cond (eqb flag 1) None (Some number))

-- the cell that the versions of a chain that a begin sees leave in a column
abbrev pub cell_value : {V : Type 0} → (V → ℕ → Seen) → (V → ℕ → Option (Option Cell)) → ℕ → ℕ → List V → Option Cell
cell_value status cells begin column chain = left_by (acts (λ v. is_visible (status v begin)) (λ v. cells v column) chain)

-- ---- laws
-- the values of a column and of its null flag are the cell that the versions leave
abbrev pub CellsAreRead : {V : Type 0} → (V → ℕ → Seen) → (V → ℕ → Option (Option ℕ)) → Type 0
CellsAreRead {V} status explicit = (cells : V → ℕ → Option (Option Cell)) (begin column : ℕ) (chain : List V) → HoldCells explicit cells → column < 8
    → cell_of (column_value status explicit begin column chain) (column_value status explicit begin (null_column column) chain) ≡ cell_value status cells begin column chain

-- the version is hidden, or doesn't hold the column
abbrev pub IsPassed : {V : Type 0} → (V → ℕ → Seen) → (V → ℕ → Option (Option ℕ)) → ℕ → ℕ → V → Type 0
IsPassed status explicit begin column version = (status version begin ≡ Hidden) ⊎ (explicit version column ≡ None)

-- the acts of a chain are those of its versions that the test takes, in the order of their age
abbrev pub ActsAreTaken : (V A : Type 0) → Type 0
ActsAreTaken V A = (test : V → Bool) (of : V → A) (chain : List V) → acts test of chain ≡ map of (filter test (reverse chain))

-- a newest version puts what it holds in the place of what the older ones leave, where it is visible
abbrev pub AddsOne : {V : Type 0} → (V → ℕ → Seen) → (V → ℕ → Option (Option ℕ)) → Type 0
AddsOne {V} status explicit = (begin column : ℕ) (version : V) (older : List V)
    → column_value status explicit begin column (version ∷ older) ≡ cond (is_visible (status version begin)) (replaced (column_value status explicit begin column older) (explicit version column)) (column_value status explicit begin column older)

-- newer versions that are hidden or don't hold the column change nothing there
abbrev pub PassedChangeNothing : {V : Type 0} → (V → ℕ → Seen) → (V → ℕ → Option (Option ℕ)) → Type 0
PassedChangeNothing {V} status explicit = (begin column : ℕ) (newer older : List V) → All (IsPassed status explicit begin column) newer
    → column_value status explicit begin column (newer ++ older) ≡ column_value status explicit begin column older

-- the newest visible version that holds the column decides
abbrev pub NewestDecides : {V : Type 0} → (V → ℕ → Seen) → (V → ℕ → Option (Option ℕ)) → Type 0
NewestDecides {V} status explicit = (begin column : ℕ) (newer older : List V) (version : V) (held : Option ℕ) → All (IsPassed status explicit begin column) newer
    → status version begin ≡ Visible → explicit version column ≡ Some held → column_value status explicit begin column (newer ++ version ∷ older) ≡ held
