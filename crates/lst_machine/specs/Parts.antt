-- The fields of a machine, and the state that they show.
use Rattle.std.specs.Prelude.{◌≡◌, ℕ, ◌*◌, ◌≤◌, List, [], ◌∷◌, Bool, cond, ◌&&◌, Option, None, length, slice_index_or, ◌==◌}
use Rattle.std.specs.List.{list_any}
use Rattle.lst_layout.specs.declared.limits.Limits.{Limits}
use Rattle.lst_layout.specs.Limits.{IsValid}
use Rattle.lst_model.specs.declared.commits.Commit.{Commit}
use Rattle.lst_machine.specs.declared.parts.Swap.{Swap}
use Rattle.lst_machine.specs.declared.parts.Author.{Author}
use Rattle.lst_machine.specs.State.{Accepted, Opened, State}

-- of a session: how many transactions it has begun, the open one, the number of swaps when that began, and the numbers of those
-- that ended without a commit
pub record SessionState : Type 0 where
  pub begins : ℕ
  pub opened : Option Opened
  pub swaps_at_begin : ℕ
  pub closed : List ℕ

abbrev pub new_session : SessionState
new_session = record { begins = 0; opened = None; swaps_at_begin = 0; closed = [] }

-- the commits, the placed keys, by range the accepted writes, the sessions, and the swaps of pages in order
pub record Parts : Type 0 where
  pub history : List Commit
  pub placed : List ℕ
  pub ranges : List (List Accepted)
  pub sessions : List SessionState
  pub swaps : List Swap

abbrev pub session_of : List SessionState → ℕ → SessionState
session_of sessions session = slice_index_or sessions session new_session

abbrev pub range_in : List (List Accepted) → ℕ → List Accepted
range_in ranges range = slice_index_or ranges range []

abbrev pub has_number : ℕ → List ℕ → Bool
has_number number numbers = list_any (λ other. other == number) numbers

-- the TPS of a page after swaps, where it had this one before them
abbrev pub tps_after : ℕ → List Swap → ℕ → ℕ → ℕ
tps_after tps [] range column = tps
tps_after tps (swap ∷ swaps) range column = tps_after (cond (swap.range == range && swap.column == column) swap.tps tps) swaps range column

abbrev pub state_in : Parts → State
state_in parts = record {
  store = record {
    history = parts.history;
    placed = parts.placed;
    accepted = λ range. range_in parts.ranges range;
    begins = λ session. (session_of parts.sessions session).begins;
    opened = λ session. (session_of parts.sessions session).opened;
    closed = λ session number. has_number number (session_of parts.sessions session).closed;
  };
  pages = record {
    tps = λ range column. tps_after 0 parts.swaps range column;
    swaps = length parts.swaps;
    swaps_at_begin = λ session. (session_of parts.sessions session).swaps_at_begin;
  };
}

-- the lists have the lengths that the limits say, and no range has more writes than its limit
pub record IsWhole (limits : Limits) (parts : Parts) : Type 0 where
  pub valid : IsValid limits
  pub sessions : length parts.sessions ≡ limits.sessions
  pub ranges : length parts.ranges ≡ limits.ranges
  pub placed : length parts.placed ≤ 256 * limits.ranges
  pub few : (range : ℕ) → length (range_in parts.ranges range) ≤ limits.tails

-- who made an accepted write
abbrev pub author_of : Accepted → Author
author_of write = record { session = write.session; number = write.number }
