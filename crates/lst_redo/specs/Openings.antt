-- A journal that was opened over a disk, and why one was not.
use Rattle.std.specs.Prelude.{◌≡◌, ℕ, List}
use Rattle.lst_layout.specs.declared.limits.Limits.{Limits}
use Rattle.lst_model.specs.declared.commits.Commit.{Commit}
use Rattle.lst_machine.specs.State.{opening}
use Rattle.lst_machine.specs.Machine.{state_after}
use Rattle.lst_snapshots.specs.Replays.{numbered_from}
use Rattle.lst_replay_laws.specs.Runs.{IsFullAt}
use Rattle.lst_redo.specs.Recoveries.{HasRunAgain}
use Rattle.lst_redo.specs.Scripts.{lines_again}
use Rattle.lst_log.specs.Journals.{StandsFor}
use Rattle.lst_redo.specs.declared.journal.Redo.{Redo}
use Rattle.lst_session.specs.Crews.{state_told}
use Rattle.lst_redo.specs.Journals.{view_of, IsJournalOf}

-- the content stood for these commits; the journal stands for them, and its crew has run them again, and nothing else: it tells the state of the machine
-- behind their lines
pub record HasOpened {D : Type 0} (content : D → List ℕ) (images : D → List ℕ → Type 0) (limits : Limits) (old : D) (commits : List Commit) (redo : Redo D) : Type 0 where
  pub stood : StandsFor limits.columns (content old) commits
  pub journal : IsJournalOf content images commits redo
  pub ran : HasRunAgain redo.store limits (numbered_from 1 commits) redo.crew
  pub state : state_told (view_of redo) ≡ state_after limits opening (lines_again commits)

-- the content stands for a list whose commit at this time is the first that meets a limit when they are run again
pub record IsTooFull (limits : Limits) (image : List ℕ) (time : ℕ) : Type 0 where
  pub commits : List Commit
  pub stands : StandsFor limits.columns image commits
  pub full : IsFullAt limits (numbered_from 1 commits) time
