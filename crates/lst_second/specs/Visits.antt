-- One position of a number's run, looked at to post the tail in hand.
use Rattle.std.specs.Prelude.{◌≡◌, ℕ, ◌+◌, ◌<◌, List, true, false, slice_index}
use Rattle.lst_layout.specs.declared.limits.Limits.{Limits}
use Rattle.lst_layout.specs.Areas.{IsIndexed}
use Rattle.lst_core_state.specs.declared.known.Known.{Known}
use Rattle.lst_core_state.specs.Cells.{has_bit, has_number}
use Rattle.lst_rule.specs.Rule.{knows, hosts}
use Rattle.lst_rule.specs.declared.store.Store.{Store}
use Rattle.lst_rule.specs.Seats.{Sitting}
use Rattle.lst_rule.specs.Stores.{IsSeatOf}
use Rattle.lst_rule.specs.Shown.{HasWords, Passed}
use Rattle.lst_rule.specs.Posting.{ColumnIsPosted, HasTail}
use Rattle.lst_second.specs.declared.visits.Entry.{Entry}

-- the tail in hand is whole, it is of the entry's record, and it holds the entry's value in an indexed column, with a number
pub record IsEntry (l : Limits) (k : Known) (e : Entry) : Type 0 where
  pub whole : k.hold.is_whole ≡ true
  pub latch : k.hold.latch ≡ e.rec + 1
  pub low : e.column < l.columns
  pub indexed : IsIndexed l e.column
  pub encoding : ℕ
  pub values : List ℕ
  pub words : HasWords k.facts k.hold.tail encoding values
  pub number : has_number encoding e.column ≡ true
  pub same : slice_index values e.column ≡ e.value

-- the run of the tail's number was found to end without a posting of its record and number, and the tail wasn't posted since
pub record MayPost (k : Known) (column : ℕ) : Type 0 where
  pub unposted : has_bit k.draft.unposted column ≡ true
  pub still : has_bit k.draft.posted column ≡ false

-- the session s, which the seat hosts, has the entry in hand, and has passed n positions of its run
pub record Visits (store : Store) (seat : Sitting) (s : ℕ) (e : Entry) (n : ℕ) : Type 0 where
  pub seat_of : IsSeatOf store seat
  pub host : hosts seat.view s ≡ true
  pub own : s < seat.view.limits.sessions
  pub entry : IsEntry store.layout.limits (knows seat.view s) e
  pub passed : Passed store.layout.limits (knows seat.view s).facts e.column e.rec e.value n

-- the session s, which the seat hosts, has a whole tail in hand, and each indexed column below this one is posted
pub record Columns (store : Store) (seat : Sitting) (s column : ℕ) : Type 0 where
  pub seat_of : IsSeatOf store seat
  pub host : hosts seat.view s ≡ true
  pub own : s < seat.view.limits.sessions
  pub tail : HasTail (knows seat.view s)
  pub below : (c : ℕ) → c < column → c < store.layout.limits.columns → IsIndexed store.layout.limits c → ColumnIsPosted store.layout.limits (knows seat.view s) c
