-- Lists of commits that are run again whole: when each of them can be, and which is the first that meets a limit.
use Rattle.std.specs.Prelude.{◌≡◌, ◌≢◌, ℕ, ◌+◌, ◌≤◌, List, [], ◌∷◌, ◌++◌, length}
use Rattle.std.specs.List.{AllByRecursion}
use Rattle.lst_layout.specs.declared.limits.Limits.{Limits}
use Rattle.lst_model.specs.declared.commits.Commit.{Commit}
use Rattle.lst_model.specs.Lines.{CallFits}
use Rattle.lst_model.specs.Histories.{table_at, StandByKey}
use Rattle.lst_machine.specs.State.{Store, opening_store}
use Rattle.lst_snapshots.specs.Replays.{IsRecovered, SameWrites, numbered_from}
use Rattle.lst_replay_laws.specs.Again.{call_of, after_again, after_all_again, all_again}
use Rattle.lst_replay_laws.specs.Rests.{IsRested, HasRoomFor, MeetsLimit}
use Rattle.lst_replay_laws.specs.Counts.{IsCounted, SameCommits}

-- a commit has writes, by key, each of the table's columns
pub record HasWrites (columns : ℕ) (c : Commit) : Type 0 where
  pub order : StandByKey c.writes
  pub some : c.writes ≢ []
  pub fit : AllByRecursion (λ write. CallFits columns (call_of write)) c.writes

-- none of the commits meets a limit when they are run again, in order
abbrev pub RunsAgain : Limits → Store → List Commit → Type 0
RunsAgain limits store [] = Unit {0}
RunsAgain limits store (c ∷ commits) = (¬ MeetsLimit limits store c) × RunsAgain limits (after_again limits store c) commits

-- when they are run again on a new store, the commit at this time is the first that meets a limit
pub record IsFullAt (limits : Limits) (commits : List Commit) (time : ℕ) : Type 0 where
  pub front : List Commit
  pub commit : Commit
  pub rest : List Commit
  pub split : commits ≡ front ++ commit ∷ rest
  pub place : time ≡ length front + 1
  pub before : RunsAgain limits opening_store front
  pub meets : MeetsLimit limits (after_all_again limits opening_store front) commit

-- limits that are at least as large where a commit may meet one
pub record AreAtLeast (large small : Limits) : Type 0 where
  pub sessions : small.sessions ≤ large.sessions
  pub ranges : small.ranges ≤ large.ranges
  pub tails : small.tails ≤ large.tails
  pub txns : small.txns ≤ large.txns

-- ---- laws

-- a recovered history that is run again rests
abbrev pub RecoveredRests : Type 0
RecoveredRests = (limits : Limits) (columns : ℕ) (commits : List Commit) → IsRecovered commits → AllByRecursion (HasWrites columns) commits → RunsAgain limits opening_store commits
    → IsRested limits commits (after_all_again limits opening_store commits)

-- where there is room for all of it, it can be run again
abbrev pub RoomRunsAgain : Type 0
RoomRunsAgain = (limits : Limits) (columns : ℕ) (commits : List Commit) → IsRecovered commits → AllByRecursion (HasWrites columns) commits → HasRoomFor limits commits → RunsAgain limits opening_store commits

-- a list has one first commit at most that meets a limit, and none where it can be run again
abbrev pub FullIsOne : Type 0
FullIsOne = (limits : Limits) (commits : List Commit) (time other : ℕ) → IsFullAt limits commits time → IsFullAt limits commits other → time ≡ other

abbrev pub FullIsNotRun : Type 0
FullIsNotRun = (limits : Limits) (commits : List Commit) (time : ℕ) → IsFullAt limits commits time → ¬ RunsAgain limits opening_store commits

-- larger limits have room too
abbrev pub RoomGrows : Type 0
RoomGrows = (large small : Limits) (commits : List Commit) → AreAtLeast large small → HasRoomFor small commits → HasRoomFor large commits

-- lists with the same writes make the same table at each time
abbrev pub SameTables : Type 0
SameTables = (history commits : List Commit) (time : ℕ) → SameWrites history commits → table_at history time ≡ table_at commits time

-- commits run again are of the same sessions, with the same writes; so are numbered ones
abbrev pub AgainAreSame : Type 0
AgainAreSame = (commits : List Commit) (time : ℕ) → SameCommits (all_again (numbered_from time commits)) commits

abbrev pub NumberedAreSame : Type 0
NumberedAreSame = (commits : List Commit) (time : ℕ) → SameCommits commits (numbered_from time commits)

abbrev pub SameHaveWrites : Type 0
SameHaveWrites = (history commits : List Commit) → SameCommits history commits → SameWrites history commits

-- and one more at the end of both
abbrev pub SameGrows : Type 0
SameGrows = (history commits : List Commit) (c d : Commit) → SameCommits history commits → c.session ≡ d.session → c.writes ≡ d.writes → SameCommits (history ++ c ∷ []) (commits ++ d ∷ [])

-- they need the same room
abbrev pub SameHaveRoom : Type 0
SameHaveRoom = (limits : Limits) (history commits : List Commit) → SameCommits history commits → HasRoomFor limits history → HasRoomFor limits commits

-- what was run again is counted
abbrev pub AgainIsCounted : Type 0
AgainIsCounted = (limits : Limits) (commits : List Commit) → RunsAgain limits opening_store commits → IsCounted limits (after_all_again limits opening_store commits)
