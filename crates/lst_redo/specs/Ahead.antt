-- Lines that are run one after another, while the commits that they make wait to be written together.
use Rattle.std.specs.Prelude.{◌≡◌, ◌↔◌, ℕ, ◌+◌, ◌<◌, List, [], ◌∷◌, ◌++◌, length, Option, Result, Ok, Err, IfOk, OnOk, OnErr}
use Rattle.lst_disk.specs.Disk.{overwritten, LeavesOnly}
use Rattle.lst_model.specs.declared.commits.Commit.{Commit}
use Rattle.lst_model.specs.declared.memory.OutOfMemory.{OutOfMemory}
use Rattle.lst_model.specs.declared.lines.Line.{Line}
use Rattle.lst_model.specs.declared.lines.Line.TheVariants.{Call as CallLine}
use Rattle.lst_model.specs.declared.lines.Call.TheVariants.{Commit as CommitCall}
use Rattle.lst_model.specs.declared.replies.Reply.TheVariants.{Committed}
use Rattle.lst_model.specs.Faults.{Rose}
use Rattle.lst_log.specs.Format.{journal}
use Rattle.lst_log.specs.Journals.{AllMayFollow, StandsForOrAll}
use Rattle.lst_log.specs.Logs.{Keeps, AreStaged, MakesRoom}
use Rattle.lst_log.specs.Stores.{CountsCalls}
use Rattle.lst_rule.specs.declared.view.View.{View}
use Rattle.lst_scan.specs.Lines.{KeepsState, LineLooks}
use Rattle.lst_session.specs.Crews.{IsCrewOf}
use Rattle.lst_snapshots.specs.Replays.{MayFollow}
use Rattle.lst_redo.specs.declared.journal.Kept.{Kept}
use Rattle.lst_redo.specs.declared.journal.Kept.TheVariants.{Reply as Replied, JournalFull, DiskFault}
use Rattle.lst_redo.specs.declared.journal.Redo.{Redo}
use Rattle.lst_redo.specs.declared.together.RunFault.{RunFault}
use Rattle.lst_redo.specs.declared.together.RunFault.TheVariants.{Disk}
use Rattle.lst_redo.specs.Journals.{view_of, IsJournalOf, IsCrewFor}
use Rattle.lst_redo.specs.Owns.{commit_of}
use Rattle.lst_redo.specs.Answers.{IsAnswered, LacksRoom, commits_after}

-- a line was answered while these commits wait to be written where the records end: by the machine's reply, or that their records, its commit's and the byte
-- behind them pass the disk's end
pub record IsRun (columns end size : ℕ) (v w : View) (made : List Commit) (line : Line) (kept : Kept) : Type 0 where
  pub answered : IsAnswered v w line kept
  pub full : (kept ≡ JournalFull) ↔ LacksRoom v line columns (end + length (journal columns made)) size
  pub sound : ¬ (kept ≡ DiskFault)

-- lines are answered one after another, from one view to another, and all of these commits were made then; where fewer are answered than were given,
-- memory was wanting for the next, and it changed nothing
abbrev pub AreRun : ℕ → ℕ → ℕ → View → List Commit → List Line → List Kept → View → List Commit → Type 0
AreRun columns end size v made [] [] w all = (w ≡ v) × (all ≡ made)
AreRun columns end size v made [] (kept ∷ answers) w all = ⊥
AreRun columns end size v made (line ∷ lines) [] w all = KeepsState v w × LineLooks v w line × (all ≡ made)
AreRun columns end size v made (line ∷ lines) (kept ∷ answers) w all =
    (mid : View) × IsRun columns end size v mid made line kept × AreRun columns end size mid (commits_after v made line kept) lines answers w all

-- a disk that tells its calls makes four where commits were made, and fails exactly where fewer are left; else it makes none
abbrev pub CountsRun : {T : Type 0} → List Commit → Option ℕ → Option ℕ → Result T RunFault → Type 0
CountsRun [] before after result = after ≡ before
CountsRun (c ∷ made) before after result = CountsCalls 4 before after result

-- the records of commits that were made stand on the disk where the records ended, and a byte 0 behind them; where none was made nothing changed
abbrev pub AreWritten : List Commit → ℕ → ℕ → List ℕ → List ℕ → Type 0
AreWritten [] columns end old new = new ≡ old
AreWritten (c ∷ made) columns end old new = new ≡ overwritten old end (journal columns (c ∷ made) ++ 0 ∷ [])

-- lines were run, and the commits that they made were written together, or the disk failed: a crash at any moment leaves all of them or none
pub record HasRun {D T : Type 0} (content : D → List ℕ) (images : D → List ℕ → Type 0) (clock : D → ℕ) (images_since : D → ℕ → List ℕ → Type 0) (calls_left : D → Option ℕ)
    (old new : Redo D) (lines : List Line) (answers : List Kept) (made : List Commit) (result : Result T RunFault) : Type 0 where
  pub runs : AreRun old.log.columns old.log.end (length (content old.log.disk)) (view_of old) [] lines answers (view_of new) made
  pub stands : (commits : List Commit) → IsJournalOf content images commits old → OnOk result (IsJournalOf content images (commits ++ made) new)
  pub any_moment : (commits : List Commit) → IsJournalOf content images commits old → LeavesOnly clock images_since old.log.disk new.log.disk (StandsForOrAll old.log.columns commits made)
  pub written : OnOk result (AreWritten made old.log.columns old.log.end (content old.log.disk) (content new.log.disk))
  pub calls : CountsRun made (calls_left old.log.disk) (calls_left new.log.disk) result

-- ---- within a run

-- the commit that a line makes may stand behind these
abbrev pub MayBeMade : View → List Commit → Line → Kept → Type 0
MayBeMade v commits (CallLine s CommitCall) (Replied (Committed time)) = MayFollow commits (commit_of v s)
MayBeMade v commits line kept = Unit {0}

abbrev pub made_after : View → List Commit → Line → Result Kept OutOfMemory → List Commit
made_after v made line (Ok kept) = commits_after v made line kept
made_after v made line (Err e) = made

-- the crew is ahead of the disk: it made these commits since, and they are staged
pub record IsAhead {D : Type 0} (content : D → List ℕ) (images : D → List ℕ → Type 0) (clock : D → ℕ) (images_since : D → ℕ → List ℕ → Type 0) (room_calls room_bytes : D → ℕ) (calls_left : D → Option ℕ) (faults : D → ℕ)
    (old new : Redo D) (made : List Commit) (batch : List ℕ) : Type 0 where
  pub staged : AreStaged content room_calls room_bytes made batch new.log
  pub follow : (commits : List Commit) → IsCrewFor commits old → AllMayFollow commits made
  pub crew : (commits : List Commit) → IsCrewFor commits old → IsCrewFor (commits ++ made) new
  pub keeps : (commits : List Commit) → Keeps content images commits old.log → Keeps content images commits new.log
  pub room : MakesRoom content images clock images_since calls_left faults old.log.disk new.log.disk
  pub columns : new.log.columns ≡ old.log.columns
  pub end : new.log.end ≡ old.log.end
  pub failed : new.failed ≡ old.failed
  pub store : new.store ≡ old.store
  pub crew_of : IsCrewOf new.store new.crew

-- it goes on by a line
pub record GoesAhead {D : Type 0} (content : D → List ℕ) (images : D → List ℕ → Type 0) (clock : D → ℕ) (images_since : D → ℕ → List ℕ → Type 0) (room_calls room_bytes : D → ℕ) (calls_left : D → Option ℕ) (faults : D → ℕ)
    (old new : Redo D) (made : List Commit) (batch : List ℕ) (line : Line) (result : Result Kept OutOfMemory) : Type 0 where
  pub run : IfOk result (IsRun old.log.columns old.log.end (length (content old.log.disk)) (view_of old) (view_of new) made line)
  pub staged : AreStaged content room_calls room_bytes (made_after (view_of old) made line result) batch new.log
  pub follow : (commits : List Commit) → IsCrewFor commits old → IfOk result (MayBeMade (view_of old) commits line)
  pub crew : (commits : List Commit) → IsCrewFor commits old → IsCrewFor (made_after (view_of old) commits line result) new
  pub keeps : (commits : List Commit) → Keeps content images commits old.log → Keeps content images commits new.log
  pub memory : OnErr result (KeepsState (view_of old) (view_of new))
  pub looks : OnErr result (LineLooks (view_of old) (view_of new) line)
  pub room : MakesRoom content images clock images_since calls_left faults old.log.disk new.log.disk
  pub columns : new.log.columns ≡ old.log.columns
  pub end : new.log.end ≡ old.log.end
  pub failed : new.failed ≡ old.failed
  pub store : new.store ≡ old.store
  pub crew_of : IsCrewOf new.store new.crew
