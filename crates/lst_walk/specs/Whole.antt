-- A row of which the pages tell every column at the record's newest version.
use Rattle.std.specs.Prelude.{◌≡◌, ℕ, ◌+◌, ◌/◌, ◌%◌, ◌<◌, ◌≤◌, List, ◌++◌, true, false, Bool, cond, Option, Some, None, [], length, map, replicate, is_some, slice_index}
use Rattle.std.specs.List.{list_all}
use Rattle.lst_layout.specs.declared.place.Place.TheVariants.{HeadWord}
use Rattle.lst_model.specs.Cells.{Cell}
use Rattle.lst_model.specs.Histories.{row_from}
use Rattle.lst_pages.specs.Frames.{cell_in}
use Rattle.lst_rule.specs.declared.view.View.{View}
use Rattle.lst_rule.specs.declared.store.Store.{Store}
use Rattle.lst_rule.specs.Rule.{knows, hosts}
use Rattle.lst_rule.specs.Seats.{Sitting}
use Rattle.lst_rule.specs.Stores.{Looked}
use Rattle.lst_rule.specs.Watching.{Watched}
use Rattle.lst_walk.specs.Patches.{AreSet}
use Rattle.lst_walk.specs.Readers.{IsReader}
use Rattle.lst_walk.specs.Packed.{Skims}
use Rattle.lst_walk.specs.Pages.{Takes, ReadsPage, SavesByPages}
use Rattle.lst_walk.specs.declared.pages.Entry.{Entry}
use Rattle.lst_walk.specs.Filling.{RowPages}
use Rattle.lst_walk.specs.Walks.{IsRowOf, WalksRow, RowWalk}

-- between v and w the session took the page of the column in hand, and at the number n its entry tells this cell
pub record TellsCell (v w : View) (s rec n column : ℕ) (cell : Cell) : Type 0 where
  pub entry : Entry
  pub takes : Takes v w s rec column entry
  pub usable : n ≤ entry.until
  pub present : entry.is_present ≡ true
  pub is : cell ≡ cell_in takes.words (slice_index takes.page.right.entries.values (rec % 256)) (rec % 256)

-- at the number n of the record's newest version, which the call from v found, the pages of the first k columns told these cells. Nothing else was
-- found
pub record PagedRow (store : Store) (v : View) (seat : Sitting) (s rec n k : ℕ) (cells : List Cell) : Type 0 where
  pub host : hosts v s ≡ true
  pub opened : (knows v s).is_open ≡ true
  pub rest : ℕ
  pub count : length cells ≡ k
  pub columns : k + rest ≡ store.layout.limits.columns
  pub patch : List (Option Cell)
  pub is : patch ≡ map (λ cell. Some cell) cells ++ replicate rest None
  pub walk : RowWalk store v seat s rec n patch
  pub row : 0 < k → is_some (row_from None walk.acts) ≡ true
  pub headed : View
  pub word : ℕ
  pub head : Looked v headed s (HeadWord rec) word
  pub is_head : n ≡ word / 2
  pub some : 0 < n
  pub later : Watched headed seat.view s
  pub quiet : (knows seat.view s).finds ≡ (knows v s).finds
  pub reads : (column : ℕ) → column < k → ReadsPage headed seat.view s rec column

-- the row has these cells, and no word of a tail record was loaded
pub record PagedBy (v w : View) (s rec : ℕ) (cells : List Cell) : Type 0 where
  pub row : IsRowOf v s rec (Some cells)
  pub walk : WalksRow v w s rec (Some cells)
  pub saves : SavesByPages v w s rec

-- the pages of the columns below k were taken
pub record PagedWalk (store : Store) (a seat : Sitting) (s rec n k : ℕ) (cells : List Cell) : Type 0 where
  pub reader : IsReader store seat s
  pub skims : Skims a.view seat.view s
  pub count : length cells ≡ k
  pub goes : (v : View) → PagedRow store v a s rec n 0 [] → PagedRow store v seat s rec n k cells

-- what a call from v to w for the record's row answers
pub record RowBy (v w : View) (s rec : ℕ) (found : Option (List Cell)) : Type 0 where
  pub watched : Watched v w s
  pub row : IsRowOf v s rec found
  pub walk : WalksRow v w s rec found
  pub saves : 0 < (knows v s).pages.session.pin → SavesByPages v w s rec

-- the row that a call put in its place, where it answers that there is one
abbrev pub row_where : Bool → List Cell → Option (List Cell)
row_where is_there row = cond is_there (Some row) None

-- the walk for a row from the number n on, for each view at which the call for it may have begun; it is at the number m. Some column isn't set, and those that the mask holds are
pub record RowOnWalk (store : Store) (a seat : Sitting) (s rec n m : ℕ) (entries : List Entry) (patch : List (Option Cell)) (set : ℕ) : Type 0 where
  pub goes : (v : View) → PagedRow store v a s rec n 0 [] → RowPages store v seat s rec m entries patch
  pub unset : list_all is_some patch ≡ false
  pub held : AreSet set patch
