-- Seats that are parted, that tell each other what they have seen, and that are gathered.
use Rattle.std.specs.Prelude.{◌≡◌, ℕ, ◌<◌, ◌≤◌, List, Bool, true, false, ◌||◌, eqb, length, slice_index_or}
use Rattle.std.specs.List.{All, list_any}
use Rattle.lst_layout.specs.Words.{shown}
use Rattle.lst_model.specs.declared.commits.Commit.{Commit}
use Rattle.lst_model.specs.Histories.{Extends}
use Rattle.lst_core_state.specs.declared.facts.Fact.{Fact}
use Rattle.lst_core_state.specs.declared.known.Known.{Known}
use Rattle.lst_core_state.specs.State.{history_of, commits_of, mine}
use Rattle.lst_rule.specs.declared.store.Store.{Store}
use Rattle.lst_rule.specs.declared.view.View.{View}
use Rattle.lst_rule.specs.Joins.{noted, hears}
use Rattle.lst_rule.specs.Rule.{knows, hosts}
use Rattle.lst_rule.specs.Seats.{Sitting}
use Rattle.lst_rule.specs.Stores.{IsSeatOf, clocked}

-- ---- parting

-- the seat hosts the session s alone, which knows what it knew at a seat with the view v. The merger has the number of the sessions
pub record IsPartOf (store : Store) (v : View) (s : ℕ) (seat : Sitting) : Type 0 where
  pub seat_of : IsSeatOf store seat
  pub hosted : (t : ℕ) → hosts seat.view t ≡ eqb t s
  pub knows_same : knows seat.view s ≡ knows v s

-- a seat with the view v is parted: one seat a session, in order, and the merger's
pub record Parts (store : Store) (v : View) (seats : List Sitting) (merger : Sitting) : Type 0 where
  pub count : length seats ≡ v.limits.sessions
  pub each : (s : ℕ) (none : Sitting) → s < v.limits.sessions → IsPartOf store v s (slice_index_or seats s none)
  pub last : IsPartOf store v v.limits.sessions merger

-- ---- telling and hearing

-- the seat hosts a session, or the merger
abbrev pub HostsSome : View → Type 0
HostsSome v = (s : ℕ) × (hosts v s ≡ true)

-- a note of what the seat's sessions have seen: a copy of the longest history that one of them has seen, with the facts of that one
pub record Tells (store : Store) (v : View) (note : Sitting) : Type 0 where
  pub seat_of : IsSeatOf store note
  pub teller : ℕ
  pub hosted : hosts v teller ≡ true
  pub copy : note.view ≡ noted teller v
  pub all : (s : ℕ) → hosts v s ≡ true → Extends note.view.note (knows v s).seen

-- each session of the seat has heard the note: it has seen the longer history of the two, which extends both, and has the facts of both. Its own
-- commits are those that it had seen. Nothing else of what they know changed
pub record Hears (v w note : View) : Type 0 where
  pub now : (s : ℕ) → hosts v s ≡ true → knows w s ≡ hears note.note note.note_facts (knows v s)
  pub told : (s : ℕ) → hosts v s ≡ true → Extends (knows w s).seen note.note
  pub kept : (s : ℕ) → hosts v s ≡ true → Extends (knows w s).seen (knows v s).seen
  pub own : (s : ℕ) → hosts v s ≡ true → s < v.limits.sessions → mine s (knows w s) ≡ mine s (knows v s)
  pub hosted : w.hosts ≡ v.hosts
  pub limits : w.limits ≡ v.limits
  pub whole : w.whole ≡ v.whole
  pub words : w.words ≡ v.words

-- ---- gathering

-- some of these seats hosts the session, or the merger's does
abbrev pub hosted_by : List Sitting → View → ℕ → Bool
hosted_by seats merger s = hosts merger s || list_any (λ seat. hosts seat.view s) seats

-- the least session that none of them hosts
pub record IsGap (seats : List Sitting) (merger : View) (missing : ℕ) : Type 0 where
  pub session : missing < merger.limits.sessions
  pub none : hosted_by seats merger missing ≡ false
  pub below : (s : ℕ) → s < missing → hosted_by seats merger s ≡ true

abbrev pub AreAllHosted : List Sitting → View → Type 0
AreAllHosted seats merger = (s : ℕ) → s < merger.limits.sessions → hosted_by seats merger s ≡ true

-- the history of a store, as a view that knows each word has it
abbrev pub history_in : View → List Commit
history_in w = history_of w.limits (shown w.limits w.words)

-- the session s, which knew k, has seen the whole history since; its commits there are those that it had seen
pub record HasSeenAll (w : View) (s : ℕ) (k : Known) : Type 0 where
  pub index : List Fact
  pub now : knows w s ≡ clocked k (history_in w) index
  pub grows : Extends (history_in w) k.seen
  pub own : commits_of s (history_in w) ≡ mine s k

-- what a session knew, or the merger, it has in the view w
abbrev pub IsGatheredFrom : View → View → Type 0
IsGatheredFrom w v = ((s : ℕ) → s < w.limits.sessions → hosts v s ≡ true → HasSeenAll w s (knows v s)) × (hosts v w.limits.sessions ≡ true → knows w w.limits.sessions ≡ knows v w.limits.sessions)

-- one seat of these and the merger's: it hosts everybody, it knows each word, and each session has seen the whole history
pub record Gathers (seats : List Sitting) (merger w : View) : Type 0 where
  pub limits : w.limits ≡ merger.limits
  pub hosted : (s : ℕ) → s ≤ w.limits.sessions → hosts w s ≡ true
  pub whole : w.whole ≡ true
  pub each : All (λ (seat : Sitting). IsGatheredFrom w seat.view) seats
  pub own : IsGatheredFrom w merger

-- ---- on the way

-- what the view v had of the sessions that it hosts, the view w has of them
abbrev pub HasAllOf : View → View → Type 0
HasAllOf w v = (s : ℕ) → hosts v s ≡ true → (hosts w s ≡ true) × (knows w s ≡ knows v s)

-- the seats were joined to the merger's, which had the view v
pub record Unites (seats : List Sitting) (v w : View) : Type 0 where
  pub limits : w.limits ≡ v.limits
  pub hosted : (s : ℕ) → s ≤ v.limits.sessions → hosts w s ≡ hosted_by seats v s
  pub each : All (λ (seat : Sitting). HasAllOf w seat.view) seats
  pub own : HasAllOf w v

-- the sessions below n have seen the whole history
pub record SeesAll (v w : View) (n : ℕ) : Type 0 where
  pub limits : w.limits ≡ v.limits
  pub hosted : w.hosts ≡ v.hosts
  pub whole : w.whole ≡ true
  pub words : w.words ≡ v.words
  pub seen : (s : ℕ) → s < n → HasSeenAll w s (knows v s)
  pub rest : (s : ℕ) → n ≤ s → knows w s ≡ knows v s
