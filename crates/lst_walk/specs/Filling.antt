-- A walk for a row whose columns are filled by pages.
use Rattle.std.specs.Prelude.{◌≡◌, ◌⊎◌, ℕ, ◌/◌, ◌<◌, ◌≤◌, List, ◌++◌, Bool, true, false, Option, Some, None, length, is_some, slice_get, ◌||◌}
use Rattle.std.specs.List.{list_all}
use Rattle.lst_layout.specs.declared.place.Place.TheVariants.{HeadWord}
use Rattle.lst_bits.specs.Times.{time_of}
use Rattle.lst_model.specs.Cells.{Cell}
use Rattle.lst_model.specs.Histories.{row_from}
use Rattle.lst_rule.specs.declared.view.View.{View}
use Rattle.lst_rule.specs.declared.store.Store.{Store}
use Rattle.lst_rule.specs.Rule.{knows, hosts}
use Rattle.lst_rule.specs.Seats.{Sitting}
use Rattle.lst_rule.specs.Stores.{Looked}
use Rattle.lst_walk.specs.Pages.{ReadsPage, IsAbove}
use Rattle.lst_walk.specs.Taking.{entry_at}
use Rattle.lst_rule.specs.TailLoads.{LoadsOf}
use Rattle.lst_walk.specs.Readers.{IsReader}
use Rattle.lst_walk.specs.Packed.{Skims}
use Rattle.lst_walk.specs.Walks.{IsRowOf, WalksRow, RowWalk, Serves}
use Rattle.lst_walk.specs.declared.pages.Entry.{Entry}
use Rattle.lst_walk.specs.declared.rows.Filled.{Filled}
use Rattle.lst_walk.specs.declared.rows.Filled.TheVariants.{Absent, Whole, Partly}

-- the tail record is above the number of some column's entry
abbrev pub IsPast : View → ℕ → List Entry → ℕ → Type 0
IsPast v rec entries t = (column : ℕ) × (column < v.limits.columns) × IsAbove v rec (entry_at entries column).until t

-- on the way: each tail record of which words were loaded is above the number of some entry. The walk is at the head, and has found nothing, or the
-- entry of some column may not be used at the head
pub record SavingRow (v w : View) (s rec n : ℕ) (entries : List Entry) : Type 0 where
  pub headed : View
  pub word : ℕ
  pub head : Looked v headed s (HeadWord rec) word
  pub some : 0 < word / 2
  pub page : (column : ℕ) → column < v.limits.columns → ReadsPage headed w s rec column
  pub until : (column : ℕ) (low : column < v.limits.columns) → time_of (page column low).stamp ≤ (knows v s).begin → (entry_at entries column).until ≡ (page column low).tps
  pub past : LoadsOf v w s (IsPast v rec entries)
  pub quiet : ((n ≡ word / 2) × ((knows w s).finds ≡ (knows v s).finds)) ⊎ ((column : ℕ) × (column < v.limits.columns) × ((entry_at entries column).until < word / 2))

-- the walk for a row, with the entries of the pages of all columns
pub record RowPages (store : Store) (v : View) (seat : Sitting) (s rec n : ℕ) (entries : List Entry) (patch : List (Option Cell)) : Type 0 where
  pub host : hosts v s ≡ true
  pub opened : (knows v s).is_open ≡ true
  pub walk : RowWalk store v seat s rec n patch
  pub wide : length entries ≡ 8
  pub serves : (column : ℕ) → column < store.layout.limits.columns → 0 < (entry_at entries column).until → Serves v seat.view s rec column (walk.passed ++ walk.versions) (entry_at entries column)
  pub saves : 0 < (knows v s).pages.session.pin → SavingRow v seat.view s rec n entries

-- after the fill of some columns the walk goes on; where one was filled, there is a row
pub record GoesOn (store : Store) (v : View) (seat : Sitting) (s rec n : ℕ) (entries : List Entry) (patch : List (Option Cell)) (used : Bool) : Type 0 where
  pub pages : RowPages store v seat s rec n entries patch
  pub row : used ≡ true → is_some (row_from None pages.walk.acts) ≡ true

-- there is no row, as a page says
abbrev pub HasNoRow : View → Sitting → ℕ → ℕ → Type 0
HasNoRow v seat s rec = IsRowOf v s rec None × WalksRow v seat.view s rec None

-- what the fill of one column makes of the patch: None says that there is no row
abbrev pub SetsColumn : ℕ → List Entry → ℕ → List (Option Cell) → List (Option Cell) → Option Bool → Type 0
SetsColumn n entries column old now None = Unit {0}
SetsColumn n entries column old now (Some used) = (used ≡ false → now ≡ old) × (length now ≡ length old) × (slice_get now column ≡ Some None → (entry_at entries column).until < n) × ((other : ℕ) → slice_get now other ≡ Some None → slice_get old other ≡ Some None)

-- and of the walk
abbrev pub FillsColumn : Store → View → Sitting → ℕ → ℕ → ℕ → List Entry → List (Option Cell) → Bool → Option Bool → Type 0
FillsColumn store v seat s rec n entries now was None = HasNoRow v seat s rec
FillsColumn store v seat s rec n entries now was (Some used) = GoesOn store v seat s rec n entries now (was || used)

-- the fill of all columns
abbrev pub Fills : Store → View → Sitting → ℕ → ℕ → ℕ → List Entry → List (Option Cell) → Filled → Type 0
Fills store v seat s rec n entries now Absent = HasNoRow v seat s rec
Fills store v seat s rec n entries now Whole = GoesOn store v seat s rec n entries now true × (list_all is_some now ≡ true)
Fills store v seat s rec n entries now Partly = RowPages store v seat s rec n entries now

abbrev pub SetsAll : ℕ → ℕ → List Entry → List (Option Cell) → List (Option Cell) → Filled → Type 0
SetsAll columns n entries old now Absent = Unit {0}
SetsAll columns n entries old now Whole = Unit {0}
SetsAll columns n entries old now Partly = ((now ≡ old) ⊎ (list_all is_some now ≡ false)) × ((column : ℕ) → column < columns → slice_get now column ≡ Some None → (entry_at entries column).until < n)

-- the columns below k are filled
pub record FillWalk (store : Store) (a seat : Sitting) (s rec n k : ℕ) (entries : List Entry) (old now : List (Option Cell)) (used : Bool) : Type 0 where
  pub reader : IsReader store seat s
  pub skims : Skims a.view seat.view s
  pub wide : length now ≡ store.layout.limits.columns
  pub goes : (v : View) → RowPages store v a s rec n entries old → GoesOn store v seat s rec n entries now used
  pub same : used ≡ false → now ≡ old
  pub done : (column : ℕ) → column < k → slice_get now column ≡ Some None → (entry_at entries column).until < n
