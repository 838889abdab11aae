-- Walks along a record's chain.
use Rattle.std.specs.Prelude.{◌≡◌, ◌≢◌, ◌⊎◌, ℕ, ◌+◌, ◌/◌, ◌%◌, ◌<◌, ◌≤◌, List, [], ◌++◌, Option, Some, None, length, take, true, false, Bool, slice_get, is_some, slice_index_or}
use Rattle.std.specs.List.{All, list_all}
use Rattle.lst_model.specs.declared.acts.Act.{Act}
use Rattle.lst_model.specs.declared.acts.Act.TheVariants.{Set}
use Rattle.lst_model.specs.Cells.{Cell, overlaid, cells_of}
use Rattle.lst_model.specs.Histories.{row_after, row_from}
use Rattle.lst_model.specs.Soundness.{Fits, FitInTurn}
use Rattle.lst_bits.specs.Times.{is_present}
use Rattle.lst_pages.specs.Frames.{stamp_in}
use Rattle.lst_pages.specs.Rows.{column_of}
use Rattle.lst_core_state.specs.Cells.{range_of}
use Rattle.lst_layout.specs.Words.{Words, shown}
use Rattle.lst_layout.specs.Areas.{frame_count}
use Rattle.lst_core_state.specs.State.{name_of, sight}
use Rattle.lst_core_state.specs.declared.known.Known.{Known}
use Rattle.lst_rule.specs.declared.view.View.{View}
use Rattle.lst_rule.specs.Rule.{knows}
use Rattle.lst_rule.specs.Learned.{Possible}
use Rattle.lst_rule.specs.declared.store.Store.{Store}
use Rattle.lst_rule.specs.Seats.{Sitting}
use Rattle.lst_rule.specs.Copies.{Version, IsChainFrom, IsCopy}
use Rattle.lst_rule.specs.Seen.{sees, act_by, seen_acts, HasKey}
use Rattle.lst_rule.specs.Watching.{HasInHand, Watched}
use Rattle.lst_rule.specs.TailLoads.{LoadsTail}
use Rattle.lst_walk.specs.Readers.{IsReader, IsAt, IsResolved}
use Rattle.lst_walk.specs.Patches.{seen_after, cell_in, IsWide}
use Rattle.lst_walk.specs.Pages.{NoneTold, UsesPage, IsPageOf, IsEntryOf, Saving}
use Rattle.lst_walk.specs.declared.pages.Entry.{Entry}
use Rattle.lst_walk.specs.declared.rows.Visit.{Visit}
use Rattle.lst_walk.specs.declared.rows.Visit.TheVariants.{Row, NoRow, Older}

-- these acts are what the open transaction sees of the record: those of the key that the facts have on it, or none
pub record IsSightOf (k : Known) (rec : ℕ) (acts : List Act) : Type 0 where
  pub of_key : (key : ℕ) → HasKey k.facts rec key → acts ≡ sight k key
  pub keyed : (acts ≡ []) ⊎ ((key : ℕ) × HasKey k.facts rec key)

-- the row of the record that the session's open transaction sees
abbrev pub IsRowOf : View → ℕ → ℕ → Option (List Cell) → Type 0
IsRowOf v s rec row = (acts : List Act) × IsSightOf (knows v s) rec acts × (row ≡ row_from None acts)

-- and the cell of a column in it
abbrev pub IsCellOf : View → ℕ → ℕ → ℕ → Option ℕ → Type 0
IsCellOf v s rec column cell = (acts : List Act) × IsSightOf (knows v s) rec acts × (cell ≡ cell_in column (row_from None acts))

-- in these words, the version is stamped where its transaction is committed, if that isn't the one of this name
abbrev pub IsStampedIn : Words → ℕ → Version → Type 0
IsStampedIn w own c = c.writer ≢ own → 1 < w.states (c.writer % 16) (c.writer / 16) → w.states (c.writer % 16) (c.writer / 16) ≤ w.clock + 1 → w.cells c.tail 0 % 2 ≡ 0

-- a walk along the record's chain between v and w resolved the versions that it passed, newest first, and left the older ones
pub record Passes (v w : View) (s rec : ℕ) (passed rest : List Version) : Type 0 where
  pub head : ℕ
  pub copy : IsCopy w.limits (knows w s).facts rec head (passed ++ rest)
  pub resolved : All (IsResolved v w s (range_of rec)) passed
  -- where the view knows each word
  pub stamped : w.whole ≡ true → All (IsStampedIn (shown w.limits w.words) (name_of s (knows v s).number)) passed

-- whatever row older versions make, with what is seen of these its cell of the column is that of the row, which is there or not
abbrev pub DecideColumn : Known → ℕ → ℕ → ℕ → List Version → Option (List Cell) → Type 0
DecideColumn k s columns column passed row = (older : Option (List Cell)) → IsWide columns older → FitInTurn older (seen_acts k s passed) → column_of column (row_from older (seen_acts k s passed)) ≡ column_of column row

-- and its number of the column is this
abbrev pub DecideCell : Known → ℕ → ℕ → ℕ → List Version → Option ℕ → Type 0
DecideCell k s columns column passed cell = (older : Option (List Cell)) → IsWide columns older → FitInTurn older (seen_acts k s passed) → cell_in column (row_from older (seen_acts k s passed)) ≡ cell

-- on the way, once the versions above were passed, the page of the column told it
pub record UsedPage (v w : View) (s rec column : ℕ) (passed rest : List Version) : Type 0 where
  pub above : List Version
  pub below : List Version
  pub parts : passed ≡ above ++ below
  pub uses : UsesPage v w s rec column above (below ++ rest)

-- the page of some column tells that there is no row
pub record TellsNoRow (v w : View) (s rec columns : ℕ) (passed rest : List Version) : Type 0 where
  pub column : ℕ
  pub low : column < columns
  pub uses : UsesPage v w s rec column passed rest
  pub absent : is_present (stamp_in uses.words (rec % 256)) ≡ false

-- each column is decided by the versions that were passed, or its page told it on the way
abbrev pub AreTold : View → View → ℕ → ℕ → List Version → List Version → Option (List Cell) → Type 0
AreTold v w s rec passed rest row = (column : ℕ) → column < v.limits.columns → DecideColumn (knows v s) s v.limits.columns column passed row ⊎ UsedPage v w s rec column passed rest

-- the walk went on until no version was left, each column was told, or a page told that there is no row
abbrev pub WalksRow : View → View → ℕ → ℕ → Option (List Cell) → Type 0
WalksRow v w s rec row = (passed : List Version) × (rest : List Version) × Passes v w s rec passed rest × ((rest ≡ []) ⊎ (AreTold v w s rec passed rest row ⊎ ((row ≡ None) × TellsNoRow v w s rec v.limits.columns passed rest)))

-- the walk went on until no version was left, the versions that it passed decided the column, or its page told it
abbrev pub WalksCell : View → View → ℕ → ℕ → ℕ → Option ℕ → Type 0
WalksCell v w s rec column cell = (passed : List Version) × (rest : List Version) × Passes v w s rec passed rest × ((rest ≡ []) ⊎ (DecideCell (knows v s) s v.limits.columns column passed cell ⊎ UsesPage v w s rec column passed rest))

-- what a visit of the version c makes of the patch of the newer versions, whatever row the older ones leave that the version fits
abbrev pub Visited : Known → ℕ → Version → ℕ → List (Option Cell) → List (Option Cell) → Visit → Type 0
Visited v s c columns patch more (Row nulls) = (older : Option (List Cell)) → IsWide columns older → (sees v s c.writer ≡ true → Fits older (act_by c)) → row_after (seen_after v s c older) (Set patch) ≡ Some (overlaid (cells_of nulls 0 c.values) more)
Visited v s c columns patch more NoRow = (older : Option (List Cell)) → row_after (seen_after v s c older) (Set patch) ≡ None
Visited v s c columns patch more Older = (older : Option (List Cell)) → row_after (seen_after v s c older) (Set patch) ≡ row_after older (Set more)

-- the same where it is seen
abbrev pub Acted : Version → ℕ → List (Option Cell) → List (Option Cell) → Visit → Type 0
Acted c columns patch more (Row nulls) = (older : Option (List Cell)) → IsWide columns older → Fits older (act_by c) → row_after (row_after older (act_by c)) (Set patch) ≡ Some (overlaid (cells_of nulls 0 c.values) more)
Acted c columns patch more NoRow = (older : Option (List Cell)) → row_after (row_after older (act_by c)) (Set patch) ≡ None
Acted c columns patch more Older = (older : Option (List Cell)) → row_after (row_after older (act_by c)) (Set patch) ≡ row_after older (Set more)

-- where the walk goes on, a column that the patch still doesn't set wasn't set, and the version doesn't tell of it; and if the patch changed, there is one
abbrev pub Leaves : (ℕ → Bool) → List (Option Cell) → List (Option Cell) → Visit → Type 0
Leaves tells patch more (Row nulls) = Unit {0}
Leaves tells patch more NoRow = Unit {0}
Leaves tells patch more Older = ((column : ℕ) → slice_get more column ≡ Some None → (slice_get patch column ≡ Some None) × (tells column ≡ false)) × ((more ≡ patch) ⊎ (list_all is_some more ≡ false))

-- what the version c tells of a column: its cell, or nothing
abbrev pub Tells : Known → ℕ → Version → ℕ → ℕ → Option (Option ℕ) → Type 0
Tells v s c columns column None = (older : Option (List Cell)) → cell_in column (seen_after v s c older) ≡ cell_in column older
Tells v s c columns column (Some held) = (older : Option (List Cell)) → IsWide columns older → (sees v s c.writer ≡ true → Fits older (act_by c)) → cell_in column (seen_after v s c older) ≡ held

-- the same where it is seen
abbrev pub Told : Version → ℕ → ℕ → Option (Option ℕ) → Type 0
Told c columns column None = (older : Option (List Cell)) → cell_in column (row_after older (act_by c)) ≡ cell_in column older
Told c columns column (Some held) = (older : Option (List Cell)) → IsWide columns older → Fits older (act_by c) → cell_in column (row_after older (act_by c)) ≡ held

-- what is seen of the versions makes the same of a column as the patch, of whatever row
abbrev pub MakeColumn : Known → ℕ → ℕ → List Version → List (Option Cell) → Type 0
MakeColumn k s column passed patch = (older : Option (List Cell)) → column_of column (row_from older (seen_acts k s passed)) ≡ column_of column (row_after older (Set patch))

-- the walk for a row from v has come to the number n of the record's range: the newer versions made the patch
pub record RowWalk (store : Store) (v : View) (seat : Sitting) (s rec n : ℕ) (patch : List (Option Cell)) : Type 0 where
  pub reader : IsReader store seat s
  pub possible : Possible v
  pub watched : Watched v seat.view s
  pub wide : length patch ≡ store.layout.limits.columns
  pub passed : List Version
  pub versions : List Version
  pub passes : Passes v seat.view s rec passed versions
  pub chain : IsChainFrom store.layout.limits (knows seat.view s).facts rec n versions
  pub fits : FitInTurn None (seen_acts (knows v s) s versions)
  pub acts : List Act
  pub sees : IsSightOf (knows v s) rec acts
  pub answers : row_from None acts ≡ row_after (row_from None (seen_acts (knows v s) s versions)) (Set patch)
  pub made : (column : ℕ) → column < v.limits.columns → MakeColumn (knows v s) s column passed patch ⊎ UsedPage v seat.view s rec column passed versions
  -- none of the newer versions is seen and touches a column that the patch doesn't set
  pub whole : acts ≡ seen_acts (knows v s) s (passed ++ versions)
  pub left : (column : ℕ) → slice_get patch column ≡ Some None → NoneTold (knows v s) s column passed

-- the walk for a cell: the newer versions tell nothing of the column
pub record CellWalk (store : Store) (v : View) (seat : Sitting) (s rec column n : ℕ) : Type 0 where
  pub reader : IsReader store seat s
  pub possible : Possible v
  pub watched : Watched v seat.view s
  pub passed : List Version
  pub versions : List Version
  pub passes : Passes v seat.view s rec passed versions
  pub chain : IsChainFrom store.layout.limits (knows seat.view s).facts rec n versions
  pub fits : FitInTurn None (seen_acts (knows v s) s versions)
  pub acts : List Act
  pub sees : IsSightOf (knows v s) rec acts
  pub answers : cell_in column (row_from None acts) ≡ cell_in column (row_from None (seen_acts (knows v s) s versions))
  pub made : (older : Option (List Cell)) → cell_in column (row_from older (seen_acts (knows v s) s passed)) ≡ cell_in column older
  -- none of the newer versions is seen and touches the column
  pub whole : acts ≡ seen_acts (knows v s) s (passed ++ versions)
  pub left : NoneTold (knows v s) s column passed

-- of the page of the column, which was taken in hand between v and w, this entry may be used from its number on, where the record's whole chain is this copy
pub record Serves (v w : View) (s rec column : ℕ) (copy : List Version) (entry : Entry) : Type 0 where
  pub between : View
  pub before : Watched v between s
  pub after : Watched between w s
  pub words : ℕ → ℕ
  pub page : IsPageOf between rec column words
  pub head : ℕ
  pub copied : IsCopy between.limits (knows between s).facts rec head copy
  pub is : IsEntryOf (knows v s) rec words entry
  pub low : entry.frame < frame_count w.limits
  pub in_hand : HasInHand (knows w s).pages.session entry.frame words

-- the walk for a cell, with the entry of the column's page
pub record PageWalk (store : Store) (v : View) (seat : Sitting) (s rec column n : ℕ) (entry : Entry) : Type 0 where
  pub walk : CellWalk store v seat s rec column n
  pub serves : 0 < entry.until → Serves v seat.view s rec column (walk.passed ++ walk.versions) entry
  pub saves : 0 < (knows v s).pages.session.pin → Saving v seat.view s rec column n entry

-- k cells of those that the version at the tail makes
pub record Fills {A : Type 0} (store : Store) (v : View) (seat : Sitting) (s tail k : ℕ) (items : List A) (target : Version → List A) : Type 0 where
  pub reader : IsReader store seat s
  pub watched : Watched v seat.view s
  pub loads : LoadsTail v seat.view s tail
  pub count : length items ≡ k
  pub made : (c : Version) → IsAt v s tail c → items ≡ take k (target c)

-- the first k cells of the patch are those that the version at the tail makes of it, and the others are as before
pub record Merges (store : Store) (v : View) (seat : Sitting) (s tail k : ℕ) (before now : List (Option Cell)) (target : Version → List (Option Cell)) : Type 0 where
  pub reader : IsReader store seat s
  pub watched : Watched v seat.view s
  pub loads : LoadsTail v seat.view s tail
  pub count : length now ≡ length before
  pub made : (c : Version) → IsAt v s tail c → (i : ℕ) → i < k → slice_index_or now i None ≡ slice_index_or (target c) i None
  pub rest : (i : ℕ) → k ≤ i → slice_index_or now i None ≡ slice_index_or before i None
