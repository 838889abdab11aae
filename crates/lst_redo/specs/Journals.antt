-- An open journal: the list of commits that it stands for, and what its crew tells.
use Rattle.std.specs.Prelude.{◌≡◌, ℕ, ◌≤◌, List}
use Rattle.lst_model.specs.declared.commits.Commit.{Commit}
use Rattle.lst_log.specs.Logs.{Keeps}
use Rattle.lst_replay_laws.specs.Counts.{IsCounted, SameCommits}
use Rattle.lst_rule.specs.declared.view.View.{View}
use Rattle.lst_session.specs.Crews.{IsCrewOf, TellsState, store_told}
use Rattle.lst_redo.specs.declared.journal.Redo.{Redo}
use Rattle.lst_redo.specs.Owns.{AreOwn}

abbrev pub view_of : {D : Type 0} → Redo D → View
view_of redo = redo.crew.seat.view

-- the disk's content stands for these commits, and a crash leaves just the content; the crew is the store's, and the state that it tells has as many
-- commits, of the same sessions and with the same writes, which its limits have had room for; and the own writes of the open transactions are kept
pub record IsJournalOf {D : Type 0} (content : D → List ℕ) (images : D → List ℕ → Type 0) (commits : List Commit) (redo : Redo D) : Type 0 where
  pub keeps : Keeps content images commits redo.log
  pub columns : redo.log.columns ≡ redo.store.layout.limits.columns
  pub few : redo.log.columns ≤ 8
  pub crew_of : IsCrewOf redo.store redo.crew
  pub tells : TellsState (view_of redo)
  pub same : SameCommits (store_told (view_of redo)).history commits
  pub counted : IsCounted (view_of redo).limits (store_told (view_of redo))
  pub own : AreOwn (view_of redo) redo.own

-- it stands for some commits
abbrev pub IsOpenJournal : {D : Type 0} → (D → List ℕ) → (D → List ℕ → Type 0) → Redo D → Type 0
IsOpenJournal content images redo = (commits : List Commit) × IsJournalOf content images commits redo

-- what a journal's crew tells has these commits, whatever its disk has of them: the same but for the disk
pub record IsCrewFor {D : Type 0} (commits : List Commit) (redo : Redo D) : Type 0 where
  pub columns : redo.log.columns ≡ redo.store.layout.limits.columns
  pub few : redo.log.columns ≤ 8
  pub crew_of : IsCrewOf redo.store redo.crew
  pub tells : TellsState (view_of redo)
  pub same : SameCommits (store_told (view_of redo)).history commits
  pub counted : IsCounted (view_of redo).limits (store_told (view_of redo))
  pub own : AreOwn (view_of redo) redo.own

-- it has some commits
abbrev pub HasCrew : {D : Type 0} → Redo D → Type 0
HasCrew redo = (commits : List Commit) × IsCrewFor commits redo
