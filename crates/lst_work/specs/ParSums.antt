-- Sessions that add up a column side by side, each over its share of the ranges.
use Rattle.std.specs.Prelude.{◌≡◌, ℕ, ◌+◌, ◌-◌, ◌*◌, ◌/◌, ◌^◌, ◌<◌, ◌≤◌, List, [], ◌++◌, Some, false, length, slice_index_or}
use Rattle.std.specs.List.{All}
use Rattle.lst_model.specs.declared.commits.Commit.{Commit}
use Rattle.lst_model.specs.Cells.{Cell}
use Rattle.lst_model.specs.Histories.{Extends, replayed}
use Rattle.lst_model.specs.Tables.{Rows, no_rows, row_of, sum_of}
use Rattle.lst_core_state.specs.declared.facts.Find.{Find}
use Rattle.lst_core_state.specs.declared.known.Known.{Known}
use Rattle.lst_core_state.specs.State.{mine}
use Rattle.lst_rule.specs.declared.store.Store.{Store}
use Rattle.lst_rule.specs.declared.view.View.{View}
use Rattle.lst_rule.specs.Learned.{Possible}
use Rattle.lst_rule.specs.Rule.{knows, hosts}
use Rattle.lst_rule.specs.Seats.{Sitting}
use Rattle.lst_rule.specs.Surveys.{HostsAll}
use Rattle.lst_rule.specs.Copies.{Includes}
use Rattle.lst_rule.specs.Seen.{HasKey}
use Rattle.lst_scan.specs.Scans.{between}
use Rattle.lst_seat.specs.Seats.{Tells, Hears}
use Rattle.lst_session.specs.declared.passes.Merger.{Merger}
use Rattle.lst_session.specs.declared.session.Session.{Session}
use Rattle.lst_session.specs.Calls.{Called, SameLists}
use Rattle.lst_session.specs.Lines.{CanBegin}
use Rattle.lst_session.specs.Crews.{store_told}
use Rattle.lst_session.specs.Parting.{IsPass, IsAlone, known_by, IsParted, IsGathered, HearMore, IsNextPhase}
use Rattle.lst_session.specs.Passes.{IsReady}
use Rattle.lst_work_laws.specs.Phases.{HaveHeard}

-- ---- before

-- The session is ready, has none open, and may begin one more transaction. It has seen the commits up to the time
pub record CanBeginAsOf (store : Store) (time : ℕ) (session : Session) : Type 0 where
  pub ready : IsReady store session
  pub may : CanBegin session.seat.view session.number
  pub seen : time ≤ length (known_by session).seen

-- the table that these commits make
abbrev pub table_of : List Commit → Rows
table_of commits = replayed no_rows commits

-- The session has seen these commits first, and its facts have the record of each key that has a row in their table
pub record HasSeenFirst (commits : List Commit) (place : ℕ → ℕ) (session : Session) : Type 0 where
  pub seen : Extends (known_by session).seen commits
  pub places : (key : ℕ) (row : List Cell) → row_of (table_of commits) key ≡ Some row → HasKey (known_by session).facts (place key) key

-- all of them have, the same commits and the same records
abbrev pub HaveSeenFirst : List Commit → (ℕ → ℕ) → List Session → Type 0
HaveSeenFirst commits place sessions = All (HasSeenFirst commits place) sessions

-- The sessions have seen the same commits up to the time, and know of the same records of the keys in their table
pub record HaveSeenAlike (time : ℕ) (sessions : List Session) : Type 0 where
  pub commits : List Commit
  pub count : length commits ≡ time
  pub place : ℕ → ℕ
  pub each : HaveSeenFirst commits place sessions

-- ---- shares

-- of so many shares of so many ranges, the first range of the share at a place
abbrev pub share_start : (ranges shares place : ℕ) → ℕ
share_start ranges shares place = place * ranges / shares

-- the shares from a place on fall to these sessions, one to each
pub record CanShare (store : Store) (time column first shares : ℕ) (sessions : List Session) : Type 0 where
  pub some : 0 < length sessions
  pub inside : first + length sessions ≤ shares
  pub column_is : column < store.layout.limits.columns
  pub each : All (CanBeginAsOf store time) sessions

-- ---- after

-- The session s, which knew u, has begun one transaction more, and ended it without a write; it knows k. What it has seen, its facts and its finds have
-- only grown; its own commits, and what it drew, latched and wrote, are as they were. It has set one pin more
pub record HasReadOnce (s : ℕ) (u k : Known) : Type 0 where
  pub closed : k.is_open ≡ false
  pub own : k.own ≡ []
  pub number : k.number ≡ u.number + 1
  pub seen : Extends k.seen u.seen
  pub facts : Includes k.facts u.facts
  pub finds : (more : List Find) × (k.finds ≡ u.finds ++ more)
  pub mine : mine s k ≡ mine s u
  pub lists : SameLists u k
  pub pins : k.pages.pins ≡ u.pages.pins + 1

-- so the session has, and is ready. Nobody else at its seat learnt anything
pub record HasSummed (store : Store) (old new : Session) : Type 0 where
  pub ready : IsReady store new
  pub session : new.number ≡ old.number
  pub called : Called old.seat.view new.seat.view old.number
  pub reads : HasReadOnce old.number (known_by old) (known_by new)

-- each of them has, wherever it stands
pub record HaveSummed (store : Store) (old new : List Session) : Type 0 where
  pub count : length new ≡ length old
  pub each : (i : ℕ) (none : Session) → i < length old → HasSummed store (slice_index_or old i none) (slice_index_or new i none)

-- the sum is that over the shares from the place `first` up to and without `last`, of a table by the records of its keys
abbrev pub IsSumOf : (ranges shares first last column : ℕ) → (ℕ → ℕ) → Rows → ℕ → Type 0
IsSumOf ranges shares first last column place table sum = sum ≡ sum_of (between place (256 * share_start ranges shares first) (256 * share_start ranges shares last) table) column

-- The sessions have added up their shares, from a place on: of the table as of the time, if they have seen the same one. It is at most 2^73 a range
pub record HaveShared (store : Store) (time column first shares : ℕ) (old new : List Session) (sum : ℕ) : Type 0 where
  pub sum_is : (commits : List Commit) (place : ℕ → ℕ) → length commits ≡ time → HaveSeenFirst commits place old → IsSumOf store.layout.limits.ranges shares first (first + length old) column place (table_of commits) sum
  pub few : sum ≤ (share_start store.layout.limits.ranges shares (first + length old) - share_start store.layout.limits.ranges shares first) * 2 ^ 73
  pub sessions : HaveSummed store old new

-- ---- laws

-- what the session has seen, and its facts, have only grown
pub record HasGrown (old new : Session) : Type 0 where
  pub seen : Extends (known_by new).seen (known_by old).seen
  pub facts : Includes (known_by new).facts (known_by old).facts

-- so have those of each
pub record HaveGrown (old new : List Session) : Type 0 where
  pub count : length new ≡ length old
  pub each : (i : ℕ) (none : Session) → i < length old → HasGrown (slice_index_or old i none) (slice_index_or new i none)

-- The sessions of a crew that is parted have seen alike up to each time that all of them have seen
abbrev pub PartedHaveSeenAlike : Type 0
PartedHaveSeenAlike = (store : Store) (v : View) (sessions : List Session) (merger : Merger) (time : ℕ) → IsParted store v sessions merger → Possible v → HostsAll v
    → ((s : ℕ) → s < v.limits.sessions → time ≤ length (knows v s).seen) → HaveSeenAlike time sessions

-- so have those of a crew that was gathered and is parted again, up to each time of its history
abbrev pub GatheredHaveSeenAlike : Type 0
GatheredHaveSeenAlike = (store : Store) (gathered : List Session) (m w : View) (sessions : List Session) (merger : Merger) (time : ℕ) → IsGathered gathered m w → IsParted store w sessions merger → Possible w
    → time ≤ length (store_told w).history → HaveSeenAlike time sessions

-- and those that have heard of each other between two phases, up to each time that one of them had seen before whose seat hosts it alone
abbrev pub PhasesSeeAlike : Type 0
PhasesSeeAlike = (store : Store) (old new : List Session) (i : ℕ) (none : Session) (time : ℕ) → IsNextPhase store old new → i < length old → IsPass store (slice_index_or old i none) → IsAlone (slice_index_or old i none)
    → Possible (slice_index_or old i none).seat.view → time ≤ length (known_by (slice_index_or old i none)).seen → HaveSeenAlike time new

-- so have those that heard of each other at a `phase` line
abbrev pub PhaseLinesSeeAlike : Type 0
PhaseLinesSeeAlike = (store : Store) (old new : List Session) (i : ℕ) (none : Session) (time : ℕ) → HaveHeard old new → i < length old → IsPass store (slice_index_or old i none) → IsAlone (slice_index_or old i none)
    → Possible (slice_index_or old i none).seat.view → time ≤ length (known_by (slice_index_or old i none)).seen → HaveSeenAlike time new

-- the session has seen first what the note tells, and its facts have those of the note
pub record KnowsNote (note : View) (session : Session) : Type 0 where
  pub seen : Extends (known_by session).seen note.note
  pub facts : Includes (known_by session).facts note.note_facts

-- so it is of the session that tells it, and of one that has heard it
abbrev pub TellersKnow : Type 0
TellersKnow = (store : Store) (teller : Session) (note : Sitting) → IsAlone teller → Tells store teller.seat.view note → KnowsNote note.view teller

abbrev pub HearersKnow : Type 0
HearersKnow = (store : Store) (old new : Session) (note : View) → IsPass store old → new.number ≡ old.number → Hears old.seat.view new.seat.view note → KnowsNote note new

-- sessions that know one note have seen alike up to each time that it tells
abbrev pub KnowersHaveSeenAlike : Type 0
KnowersHaveSeenAlike = (store : Store) (teller : Session) (note : Sitting) (sessions : List Session) (time : ℕ) → IsPass store teller → IsAlone teller → Possible teller.seat.view → Tells store teller.seat.view note
    → time ≤ length note.view.note → All (KnowsNote note.view) sessions → HaveSeenAlike time sessions

-- and what they see and learn later leaves it so
abbrev pub SeenAlikeIsKept : Type 0
SeenAlikeIsKept = (time : ℕ) (old new : List Session) → HaveGrown old new → HaveSeenAlike time old → HaveSeenAlike time new

-- as hearing does, and a sum
abbrev pub HearersHaveGrown : Type 0
HearersHaveGrown = (store : Store) (old new : List Session) → HearMore store old new → HaveGrown old new

abbrev pub SummersHaveGrown : Type 0
SummersHaveGrown = (store : Store) (old new : List Session) → HaveSummed store old new → HaveGrown old new
