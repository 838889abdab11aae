-- What a store has had room for: its commits, their sessions and their keys.
use Rattle.std.specs.Prelude.{◌≡◌, ℕ, ◌+◌, ◌*◌, ◌<◌, ◌≤◌, List, [], ◌∷◌, true, false, cond, is_some, length}
use Rattle.std.specs.List.{AllByRecursion}
use Rattle.lst_layout.specs.declared.limits.Limits.{Limits}
use Rattle.lst_model.specs.declared.commits.Commit.{Commit}
use Rattle.lst_model.specs.declared.lines.Call.{Call}
use Rattle.lst_model.specs.Histories.{all_acts_on}
use Rattle.lst_machine.specs.State.{Accepted, Store, opening_store}
use Rattle.lst_machine.specs.Writes.{is_placed}
use Rattle.lst_machine.specs.Calls.{store_after}
use Rattle.lst_replay_laws.specs.Again.{commits_by, writes_in}
use Rattle.lst_replay_laws.specs.Rests.{HasRoomFor, with_tails}

-- each commit is of one of the sessions, and each session has begun a transaction for each of its commits and for the one that is open; what was written
-- has a record
pub record IsCounted (limits : Limits) (store : Store) : Type 0 where
  pub sessions : AllByRecursion (λ (c : Commit). c.session + 1 ≤ limits.sessions) store.history
  pub begun : (s : ℕ) → commits_by s store.history + cond (is_some (store.opened s)) 1 0 ≤ store.begins s
  pub most : (s : ℕ) → store.begins s ≤ limits.txns
  pub room : length store.placed ≤ 256 * limits.ranges
  pub written : (key : ℕ) → is_placed store.placed key ≡ false → all_acts_on key store.history ≡ []
  pub accepted : (range : ℕ) → AllByRecursion (λ (a : Accepted). is_placed store.placed a.write.key ≡ true) (store.accepted range)

-- as many commits, of the same sessions and with the same writes
abbrev pub SameCommits : List Commit → List Commit → Type 0
SameCommits [] [] = Unit {0}
SameCommits [] (d ∷ others) = ⊥
SameCommits (c ∷ commits) [] = ⊥
SameCommits (c ∷ commits) (d ∷ others) = (c.session ≡ d.session) × (c.writes ≡ d.writes) × SameCommits commits others

abbrev pub OpeningIsCounted : Type 0
OpeningIsCounted = (limits : Limits) → IsCounted limits opening_store

-- each call of one of the sessions keeps the counts
abbrev pub CallsAreCounted : Type 0
CallsAreCounted = (limits : Limits) (store : Store) (session : ℕ) (call : Call) → session < limits.sessions → IsCounted limits store → IsCounted limits (store_after limits store session call)

-- the store's limits have room for its commits, given a tail for each write, and for each list with the same sessions and writes
abbrev pub CountedHasRoom : Type 0
CountedHasRoom = (limits : Limits) (store : Store) (commits : List Commit) → IsCounted limits store → SameCommits store.history commits → HasRoomFor (with_tails limits (writes_in commits)) commits
