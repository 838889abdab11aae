-- The walk along a value's run that gathers candidates.
use Rattle.std.specs.Prelude.{◌≡◌, ◌≢◌, ◌⊎◌, ℕ, ◌<◌, List, true, slice_index}
use Rattle.std.specs.List.{All, Contains}
use Rattle.lst_layout.specs.declared.limits.Limits.{Limits}
use Rattle.lst_layout.specs.Areas.{IsIndexed}
use Rattle.lst_layout.specs.Words.{shown}
use Rattle.lst_core_state.specs.declared.facts.Fact.{Fact}
use Rattle.lst_core_state.specs.Cells.{record_of}
use Rattle.lst_core_state.specs.Postings.{value_position}
use Rattle.lst_rule.specs.declared.records.RecordId.{RecordId}
use Rattle.lst_rule.specs.declared.store.Store.{Store}
use Rattle.lst_rule.specs.declared.view.View.{View}
use Rattle.lst_rule.specs.Rule.{knows, hosts}
use Rattle.lst_rule.specs.Learned.{Possible}
use Rattle.lst_rule.specs.Seats.{Sitting}
use Rattle.lst_rule.specs.Stores.{IsSeatOf}
use Rattle.lst_rule.specs.Shown.{HasWords, StandsAt}
use Rattle.lst_second.specs.Candidates.{KnownToHold}
use Rattle.lst_second.specs.declared.gathering.Sought.{Sought}

-- the tail's word of the column is another value, or its record is among these
pub record IsCounted (l : Limits) (facts : List Fact) (column value : ℕ) (records : List RecordId) (tail : ℕ) : Type 0 where
  pub encoding : ℕ
  pub values : List ℕ
  pub words : HasWords facts tail encoding values
  pub counted : (slice_index values column ≢ value) ⊎ Contains records record { number = record_of l.tails tail encoding }

-- each of the first n positions of the value's run holds such a tail
abbrev pub AreCounted : Limits → List Fact → ℕ → ℕ → List RecordId → ℕ → Type 0
AreCounted l facts column value records n = (i : ℕ) → i < n → (tail : ℕ) × StandsAt l facts column value i tail × IsCounted l facts column value records tail

-- the session s, which the seat hosts, looks for a value in an indexed column
pub record Seeks (store : Store) (seat : Sitting) (s : ℕ) (sought : Sought) : Type 0 where
  pub seat_of : IsSeatOf store seat
  pub host : hosts seat.view s ≡ true
  pub own : s < seat.view.limits.sessions
  pub low : sought.column < store.layout.limits.columns
  pub indexed : IsIndexed store.layout.limits sought.column

-- it has passed n positions of the value's run, and gathered these records
pub record Gathers (store : Store) (seat : Sitting) (s : ℕ) (sought : Sought) (records : List RecordId) (n : ℕ) : Type 0 where
  pub seeks : Seeks store seat s sought
  pub passed : AreCounted store.layout.limits (knows seat.view s).facts sought.column sought.value records n
  pub known : All (λ rec. KnownToHold store.layout.limits (knows seat.view s).facts sought.column sought.value rec.number) records

-- in a state in which the view is possible, the run is empty at its n-th position
pub record EndsAt (v : View) (column value n : ℕ) : Type 0 where
  pub met : Possible v
  pub empty : (shown v.limits met.words).postings column (value_position v.limits value n) ≡ 0
