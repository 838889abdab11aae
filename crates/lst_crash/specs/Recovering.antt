-- A run through a journal, the images that its crash may leave, and what is recovered from one of them.
use Rattle.std.specs.Prelude.{◌≡◌, ℕ, ◌≤◌, Bool, true, false, List, ◌++◌, length}
use Rattle.lst_layout.specs.declared.limits.Limits.{Limits}
use Rattle.lst_model.specs.declared.commits.Commit.{Commit}
use Rattle.lst_model.specs.declared.lines.Line.{Line}
use Rattle.lst_machine.specs.State.{opening}
use Rattle.lst_machine.specs.Machine.{state_after}
use Rattle.lst_disk.specs.declared.memory.MemDisk.{MemDisk}
use Rattle.lst_disk.specs.Disk.{left_by}
use Rattle.lst_disk.specs.Memory.{disk_content, disk_images, disk_synced, disk_outcome, disk_left}
use Rattle.lst_log.specs.Journals.{StandsFor}
use Rattle.lst_redo.specs.Scripts.{lines_again}
use Rattle.lst_replay_laws.specs.Rests.{HasRoomFor}
use Rattle.lst_rule.specs.declared.store.Store.{Store}
use Rattle.lst_session.specs.declared.crew.Crew.{Crew}
use Rattle.lst_session.specs.Crews.{IsCrewOf, TellsState, state_told}
use Rattle.lst_redo.specs.declared.journal.Redo.{Redo}
use Rattle.lst_redo.specs.Journals.{view_of, IsJournalOf}
use Rattle.lst_crash.specs.Crashes.{most_bytes, Run, Ending, ending_from, ending_of, recovered, crash_text, recovered_text, limits_again}

-- ---- a run

-- the journal is where the run stands, over a disk of so many bytes: it stands for the machine's history, and its crew tells the machine's state
pub record IsAt (limits : Limits) (bytes : ℕ) (run : Run) (redo : Redo MemDisk) : Type 0 where
  pub journal : IsJournalOf disk_content disk_images run.state.store.history redo
  pub opened : (view_of redo).limits ≡ limits
  pub told : state_told (view_of redo) ≡ run.state
  pub end : redo.log.end ≡ run.end
  pub left : disk_left redo.log.disk ≡ run.left
  pub size : length (disk_content redo.log.disk) ≡ bytes
  pub sound : redo.failed ≡ false

-- with this text so far and these lines to come it ends so
pub record IsRunning (limits : Limits) (bytes : ℕ) (redo : Redo MemDisk) (text : List ℕ) (rest : List Line) (ending : Ending) : Type 0 where
  pub run : Run
  pub at : IsAt limits bytes run redo
  pub few : bytes ≤ most_bytes
  pub ends : ending_from limits bytes run text rest ≡ ending

-- ---- what a crash may leave

-- these commits can be recovered from the image: it stands for them, and the second opening has room for them
pub record IsRecoverable (limits : Limits) (commits : List Commit) (image : List ℕ) : Type 0 where
  pub stands : StandsFor limits.columns image commits
  pub room : HasRoomFor (limits_again limits) commits

-- the run has ended: from what the disk has written the commits can be recovered that a torn crash keeps, and from what it has synced those that any other does
pub record HasEnded (limits : Limits) (disk : MemDisk) (text : List ℕ) (ending : Ending) : Type 0 where
  pub is_text : text ≡ ending.text
  pub written : IsRecoverable limits (recovered true ending) (disk_content disk)
  pub synced : IsRecoverable limits (recovered false ending) (disk_synced disk)

-- it has ended where the disk failed, and else goes on
abbrev pub GoesOn : Bool → Limits → ℕ → Redo MemDisk → List ℕ → List Line → Ending → Type 0
GoesOn true limits bytes redo text rest ending = HasEnded limits redo.log.disk text ending
GoesOn false limits bytes redo text rest ending = IsRunning limits bytes redo text rest ending

-- a whole run over a disk of so many bytes that makes so many calls
abbrev pub IsStopped : Limits → ℕ → ℕ → List Line → List ℕ → MemDisk → Type 0
IsStopped limits bytes stop script text disk = HasEnded limits disk text (ending_of limits bytes stop script)

-- ---- what is recovered

-- a store with these limits and its crew, which tells the machine's state behind the lines that run these commits again
pub record HoldsAgain (limits : Limits) (commits : List Commit) (left : Store × Crew) : Type 0 where
  pub opened : left.1.seat.view.limits ≡ limits
  pub crew_of : IsCrewOf left.0 left.1
  pub tells : TellsState left.1.seat.view
  pub told : state_told left.1.seat.view ≡ state_after limits opening (lines_again commits)

-- what the disk's crash leaves was opened: the text tells the commits that it stands for, and the store holds them
pub record HasRecovered (limits : Limits) (disk : MemDisk) (before text : List ℕ) (left : Store × Crew) : Type 0 where
  pub is_text : (commits : List Commit) → IsRecoverable limits commits (left_by (disk_outcome disk) (disk_content disk)) → text ≡ before ++ recovered_text commits
  pub holds : (commits : List Commit) → IsRecoverable limits commits (left_by (disk_outcome disk) (disk_content disk)) → HoldsAgain (limits_again limits) commits left

-- a script was run through a journal and crashed: the text tells the commits that are recovered, and the store that is left holds them
pub record IsCrashed (limits : Limits) (bytes stop : ℕ) (torn : Bool) (script : List Line) (text : List ℕ) (left : Store × Crew) : Type 0 where
  pub is_text : text ≡ crash_text (ending_of limits bytes stop script) (recovered torn (ending_of limits bytes stop script))
  pub holds : HoldsAgain (limits_again limits) (recovered torn (ending_of limits bytes stop script)) left
