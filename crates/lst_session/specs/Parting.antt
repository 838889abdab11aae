-- Crews that are parted and gathered, and sessions that tell each other what they have seen.
use Rattle.std.specs.Prelude.{◌≡◌, ℕ, suc, ◌<◌, List, [], ◌∷◌, Bool, true, false, eqb, length, slice_index_or}
use Rattle.std.specs.List.{All, list_any}
use Rattle.lst_model.specs.declared.commits.Commit.{Commit}
use Rattle.lst_model.specs.Histories.{Extends}
use Rattle.lst_core_state.specs.declared.facts.Fact.{Fact}
use Rattle.lst_core_state.specs.declared.known.Known.{Known}
use Rattle.lst_core_state.specs.Laws.{heard}
use Rattle.lst_core_state.specs.State.{mine}
use Rattle.lst_rule.specs.declared.store.Store.{Store}
use Rattle.lst_rule.specs.declared.view.View.{View}
use Rattle.lst_rule.specs.Rule.{knows, hosts}
use Rattle.lst_rule.specs.Seats.{Sitting}
use Rattle.lst_rule.specs.Stores.{IsSeatOf}
use Rattle.lst_rule.specs.Surveys.{HostsAll}
use Rattle.lst_rule.specs.Spares.{AreSpares}
use Rattle.lst_rule.specs.Copies.{Includes}
use Rattle.lst_seat.specs.Seats.{IsPartOf, HasSeenAll}
use Rattle.lst_session.specs.Crews.{store_told}
use Rattle.lst_session.specs.declared.passes.Merger.{Merger}
use Rattle.lst_session.specs.declared.session.Session.{Session}

-- what a session knows at its seat
abbrev pub known_by : Session → Known
known_by session = knows session.seat.view session.number

-- the session's seat is one of the store and hosts it. It may have something in hand
pub record IsPass (store : Store) (session : Session) : Type 0 where
  pub seat_of : IsSeatOf store session.seat
  pub host : hosts session.seat.view session.number ≡ true
  pub own : session.number < session.seat.view.limits.sessions

-- the merger's seat is one of the store and hosts it, and the spare frames are the merger's. The merger has the number of the sessions
pub record IsMergerOf (store : Store) (merger : Merger) : Type 0 where
  pub seat_of : IsSeatOf store merger.seat
  pub host : hosts merger.seat.view merger.seat.view.limits.sessions ≡ true
  pub spares : AreSpares merger.seat.view merger.spares.items

-- ---- parting

-- seats with their places in the list, from a number on
abbrev pub numbered_from : ℕ → List Sitting → List Session
numbered_from n [] = []
numbered_from n (seat ∷ seats) = record { seat = seat; number = n } ∷ numbered_from (suc n) seats

abbrev pub are_numbered : List Sitting → List Session
are_numbered seats = numbered_from 0 seats

-- it has the number s, its seat hosts it alone, and it knows what it knew at a seat with the view v
pub record IsPassFrom (store : Store) (v : View) (s : ℕ) (session : Session) : Type 0 where
  pub number : session.number ≡ s
  pub part : IsPartOf store v s session.seat

-- a crew whose seat had the view v is parted: its sessions, in order, and the merger
pub record IsParted (store : Store) (v : View) (sessions : List Session) (merger : Merger) : Type 0 where
  pub count : length sessions ≡ v.limits.sessions
  pub each : (s : ℕ) (none : Session) → s < v.limits.sessions → IsPassFrom store v s (slice_index_or sessions s none)
  pub last : IsPartOf store v v.limits.sessions merger.seat
  pub limits : merger.seat.view.limits ≡ v.limits

-- ---- gathering

-- one of the sessions has the number s
abbrev pub has_number : List Session → ℕ → Bool
has_number sessions s = list_any (λ session. eqb session.number s) sessions

-- each number below the count is one of a session
abbrev pub AreAllThere : List Session → ℕ → Type 0
AreAllThere sessions count = (s : ℕ) → s < count → has_number sessions s ≡ true

-- the least number below the count that none of them has
pub record IsMissing (sessions : List Session) (count missing : ℕ) : Type 0 where
  pub session : missing < count
  pub none : has_number sessions missing ≡ false
  pub below : (s : ℕ) → s < missing → has_number sessions s ≡ true

-- the sessions and the merger, whose seat had the view m, are at one seat with the view w, which knows each word of the store. Each session has seen
-- the whole history: it extends what the session had seen, and has of its commits those alone that it had seen
pub record IsGathered (sessions : List Session) (m w : View) : Type 0 where
  pub limits : w.limits ≡ m.limits
  pub all : HostsAll w
  pub whole : w.whole ≡ true
  pub each : All (λ (session : Session). HasSeenAll w session.number (known_by session)) sessions
  pub seen : (s : ℕ) → s < w.limits.sessions → (knows w s).seen ≡ (store_told w).history
  pub merger : knows w w.limits.sessions ≡ knows m w.limits.sessions

-- ---- telling and hearing

-- of what was known, only what was seen and the facts grew; every fact is kept
pub record OnlyHears (k now : Known) : Type 0 where
  pub facts : List Fact
  pub is : now ≡ heard k now.seen facts
  pub grows : Extends now.seen k.seen
  pub keeps : Includes now.facts k.facts

-- what a session at a place of the list has seen
abbrev pub seen_at : List Session → ℕ → Session → List Commit
seen_at sessions i none = (known_by (slice_index_or sessions i none)).seen

-- a session's pass is one still, with its number and its own commits, and hosts whom it hosted
pub record HearsMore (store : Store) (old new : Session) : Type 0 where
  pub pass : IsPass store new
  pub number : new.number ≡ old.number
  pub hosted : new.seat.view.hosts ≡ old.seat.view.hosts
  pub mine : mine old.number (known_by new) ≡ mine old.number (known_by old)
  pub knows : OnlyHears (known_by old) (known_by new)

-- of each session only what it has seen and its facts grew
pub record HearMore (store : Store) (old new : List Session) : Type 0 where
  pub count : length new ≡ length old
  pub each : (i : ℕ) (none : Session) → i < length old → HearsMore store (slice_index_or old i none) (slice_index_or new i none)

-- the session's seat hosts it alone, as that of a session of a crew that is parted does
abbrev pub IsAlone : Session → Type 0
IsAlone session = (s : ℕ) → hosts session.seat.view s ≡ eqb s session.number

-- the session at the place i of the list has seen all that the one at the place j had seen. Where that one's seat hosted it alone, it has its facts too
pub record HasHeardOf (old new : List Session) (i j : ℕ) : Type 0 where
  pub seen : (none : Session) → Extends (seen_at new i none) (seen_at old j none)
  pub facts : (none : Session) → IsAlone (slice_index_or old j none) → Includes (known_by (slice_index_or new i none)).facts (known_by (slice_index_or old j none)).facts

-- and all that the first n had seen
abbrev pub HasHeard : List Session → List Session → ℕ → ℕ → Type 0
HasHeard old new i n = (j : ℕ) → j < n → HasHeardOf old new i j

-- each of the first m has
abbrev pub HaveHeard : List Session → List Session → ℕ → Type 0
HaveHeard old new m = (i : ℕ) → i < m → HasHeard old new i (length old)

-- of each session only what it has seen and its facts grew, and each has heard of all others
pub record IsNextPhase (store : Store) (old new : List Session) : Type 0 where
  pub more : HearMore store old new
  pub all : HaveHeard old new (length old)
