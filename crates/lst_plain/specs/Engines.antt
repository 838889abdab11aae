-- What an engine holds, and what is always so of it.
use Rattle.std.specs.Prelude.{◌≡◌, ℕ, ◌+◌, ◌*◌, ◌<◌, ◌≤◌, List, [], ◌∷◌, Bool, true, false, ◌||◌, ◌==◌, cond, length, is_some, slice_index, slice_index_or}
use Rattle.std.specs.List.{Contains, sum_by}
use Rattle.lst_layout.specs.declared.limits.Limits.{Limits}
use Rattle.lst_layout.specs.Limits.{IsValid}
use Rattle.lst_plain.specs.Rows.{Kept, newest, is_held}
use Rattle.lst_plain.specs.Sessions.{SessionState, new_session}

-- the limits, the number of commits, the sessions, the records in the order of their places, and by range the number of
-- accepted writes
pub record EngineState : Type 0 where
  pub limits : Limits
  pub clock : ℕ
  pub sessions : List SessionState
  pub records : List Kept
  pub accepted : List ℕ

abbrev pub session_of : EngineState → ℕ → SessionState
session_of engine session = slice_index_or engine.sessions session new_session

abbrev pub is_open : SessionState → Bool
is_open state = is_some state.transaction

abbrev pub open_count : SessionState → ℕ
open_count state = cond (is_open state) 1 0

-- whether a place is among those of a list
abbrev pub is_among : List ℕ → ℕ → Bool
is_among [] place = false
is_among (first ∷ rest) place = first == place || is_among rest place

-- the lists have the lengths that the limits say, no count passes its limit, a session keeps the places of the records
-- with a row that it made, no version is later than the clock, and each commit and each open transaction was begun
pub record IsWhole (engine : EngineState) : Type 0 where
  pub valid : IsValid engine.limits
  pub sessions : length engine.sessions ≡ engine.limits.sessions
  pub ranges : length engine.accepted ≡ engine.limits.ranges
  pub records : length engine.records ≤ 256 * engine.limits.ranges
  pub accepted : (range : ℕ) → slice_index engine.accepted range ≤ engine.limits.tails
  pub begins : (session : ℕ) → (session_of engine session).begins ≤ engine.limits.txns
  pub noted : (session place : ℕ) (kept : Kept) → session < engine.limits.sessions → place < length engine.records → is_held (slice_index_or engine.records place kept).pending session ≡ true → is_among (session_of engine session).written place ≡ true
  pub held : (session place : ℕ) (kept : Kept) → Contains (session_of engine session).written place → is_held (slice_index_or engine.records place kept).pending session ≡ true
  pub written : (session place : ℕ) → Contains (session_of engine session).written place → place < length engine.records
  pub early : (place : ℕ) (kept : Kept) → place < length engine.records → newest (slice_index_or engine.records place kept).versions ≤ engine.clock
  pub clock : engine.clock + sum_by open_count engine.sessions ≤ sum_by (λ (state : SessionState). state.begins) engine.sessions
