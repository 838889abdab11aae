-- When an engine tells a state of the machine of one thread.
use Rattle.std.specs.Prelude.{◌≡◌, ◌≢◌, ℕ, ◌/◌, ◌<◌, ◌≤◌, List, [], ◌∷◌, Bool, true, false, cond, not, ◌&&◌, ◌||◌, Option, Some, None, is_some, length, slice_index, MatchOption, ◌==◌}
use Rattle.std.specs.List.Sorted.{IsNonDecreasingBy}
use Rattle.lst_layout.specs.declared.limits.Limits.{Limits}
use Rattle.lst_model.specs.declared.acts.Act.{Act}
use Rattle.lst_model.specs.Tables.{row_of}
use Rattle.lst_model.specs.Histories.{table_at, row_from}
use Rattle.lst_machine.specs.State.{Accepted, Opened, Store}
use Rattle.lst_machine.specs.Writes.{place_of, range_of, time_of, last_where, rival_of}
use Rattle.lst_machine.specs.Transactions.{opened_as}
use Rattle.lst_plain.specs.declared.versions.Version.{Version}
use Rattle.lst_plain.specs.declared.versions.Pending.{Pending}
use Rattle.lst_plain.specs.Rows.{Kept, keys_of, kept_of, row_at, newest, is_held}
use Rattle.lst_plain.specs.Sessions.{SessionState}
use Rattle.lst_plain.specs.Engines.{EngineState, session_of}

-- the accepted writes of the range of a key
abbrev pub accepted_on : Store → ℕ → List Accepted
accepted_on store key = store.accepted (range_of store.placed key)

abbrev pub is_by : ℕ → ℕ → Accepted → Bool
is_by session number write = write.session == session && write.number == number

-- the acts of one transaction on one key among accepted writes
abbrev pub acts_by : ℕ → ℕ → ℕ → List Accepted → List Act
acts_by session number key [] = []
acts_by session number key (first ∷ rest) = cond (is_by session number first && first.write.key == key) (first.write.act ∷ acts_by session number key rest) (acts_by session number key rest)

-- the acts on a key of a session's last transaction
abbrev pub own_acts : Store → ℕ → ℕ → List Act
own_acts store session key = acts_by session (store.begins session) key (accepted_on store key)

-- whether there is a write on a key
abbrev pub has_write : ℕ → List Accepted → Bool
has_write key [] = false
has_write key (first ∷ rest) = first.write.key == key || has_write key rest

-- a write on the key whose transaction is not closed
abbrev pub is_live : Store → ℕ → Accepted → Bool
is_live store key write = write.write.key == key && not (store.closed write.session write.number)

abbrev pub is_apart : Option Pending → Accepted → Bool
is_apart None write = true
is_apart (Some pending) write = not (is_by pending.session pending.number write)

-- the last such write that is not of the transaction with the pending row
abbrev pub last_settled : Store → ℕ → Option Pending → Option Accepted
last_settled store key pending = last_where (λ write. is_live store key write && is_apart pending write) (accepted_on store key)

-- What is so of every state that the machine reaches.
pub record IsReached (store : Store) : Type 0 where
  -- a key with accepted writes has a place in their range
  pub home : (range key : ℕ) → has_write key (store.accepted range) ≡ true → (place : ℕ) × (place_of store.placed key ≡ Some place) × (place / 256 ≡ range)
  -- each key is placed once
  pub distinct : (place : ℕ) → place < length store.placed → place_of store.placed (slice_index store.placed place) ≡ Some place
  -- no transaction has a number that its session did not come to
  pub unused : (session number range key : ℕ) → store.begins session < number → acts_by session number key (store.accepted range) ≡ []
  pub not_closed : (session number : ℕ) → store.begins session < number → store.closed session number ≡ false
  pub not_committed : (session number : ℕ) → store.begins session < number → time_of store.history session number ≡ None
  -- an open transaction is neither closed nor committed, and began by now
  pub open_not_closed : (session : ℕ) → is_some (store.opened session) ≡ true → store.closed session (store.begins session) ≡ false
  pub open_not_committed : (session : ℕ) → is_some (store.opened session) ≡ true → time_of store.history session (store.begins session) ≡ None
  pub open_begun : (session : ℕ) (opened : Opened) → store.opened session ≡ Some opened → opened.begin ≤ length store.history

-- the pending row is what the acts of its transaction, which is open, make of the row that it began with; no version is
-- later than its begin, and its writes stand last
pub record IsPending (store : Store) (key : ℕ) (versions : List Version) (pending : Pending) : Type 0 where
  pub opened : Opened
  pub is_open : store.opened pending.session ≡ Some opened
  pub number : store.begins pending.session ≡ pending.number
  pub early : newest versions ≤ opened.begin
  pub written : own_acts store pending.session key ≢ []
  pub row : row_from (row_at versions opened.begin) (own_acts store pending.session key) ≡ pending.row
  pub rival : Accepted
  pub is_last : rival_of store key ≡ Some rival
  pub by_session : rival.session ≡ pending.session
  pub by_number : rival.number ≡ pending.number

-- the record tells the rows of its key at each time, the transactions that wrote it, and the last commit that did
pub record KeyTells (kept : Kept) (store : Store) (key : ℕ) : Type 0 where
  pub rows : (time : ℕ) → time ≤ length store.history → row_of (table_at store.history time) key ≡ row_at kept.versions time
  pub rising : IsNonDecreasingBy (λ (version : Version). version.time) kept.versions
  pub early : newest kept.versions ≤ length store.history
  pub others : (session : ℕ) → is_some (store.opened session) ≡ true → is_held kept.pending session ≡ false → own_acts store session key ≡ []
  pub pending : (pending : Pending) → kept.pending ≡ Some pending → IsPending store key kept.versions pending
  pub last : MatchOption (last_settled store key kept.pending) (newest kept.versions ≡ 0) (λ write. time_of store.history write.session write.number ≡ Some (newest kept.versions))

-- a session's number and open transaction
pub record SessionTells (state : SessionState) (store : Store) (session : ℕ) : Type 0 where
  pub begins : store.begins session ≡ state.begins
  pub opened : store.opened session ≡ opened_as state.transaction

-- the engine tells the store part of a state
pub record StoreTells (engine : EngineState) (limits : Limits) (store : Store) : Type 0 where
  pub same_limits : engine.limits ≡ limits
  pub clock : length store.history ≡ engine.clock
  pub placed : store.placed ≡ keys_of engine.records
  pub counts : (range : ℕ) → range < limits.ranges → length (store.accepted range) ≡ slice_index engine.accepted range
  pub sessions : (session : ℕ) → session < limits.sessions → SessionTells (session_of engine session) store session
  pub keys : (key : ℕ) → KeyTells (kept_of engine.records key) store key
  pub reached : IsReached store
