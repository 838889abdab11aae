-- What a line is answered by a journal, and what it leaves of it.
use Rattle.std.specs.Prelude.{◌≡◌, ◌⊎◌, ◌↔◌, ℕ, ◌+◌, ◌-◌, ◌<◌, List, [], ◌∷◌, ◌++◌, length, true, Option, Some, None, Result, IfOk, OnErr}
use Rattle.lst_model.specs.declared.commits.Commit.{Commit}
use Rattle.lst_model.specs.declared.memory.OutOfMemory.{OutOfMemory}
use Rattle.lst_model.specs.declared.lines.Line.{Line}
use Rattle.lst_model.specs.declared.lines.Line.TheVariants.{Call as CallLine}
use Rattle.lst_model.specs.declared.lines.Call.TheVariants.{Commit as CommitCall}
use Rattle.lst_model.specs.declared.replies.Reply.{Reply}
use Rattle.lst_model.specs.declared.replies.Reply.TheVariants.{Committed}
use Rattle.lst_replay_laws.specs.Again.{writes_in}
use Rattle.lst_replay_laws.specs.Rests.{HasRoomFor, with_tails}
use Rattle.lst_rule.specs.declared.view.View.{View}
use Rattle.lst_rule.specs.Rule.{knows}
use Rattle.lst_scan.specs.Lines.{KeepsState, LineLooks}
use Rattle.lst_session.specs.Crews.{IsCrewOf, AnswersLine}
use Rattle.lst_log.specs.Format.{body, record_of}
use Rattle.lst_disk.specs.Disk.{CrashOutcome}
use Rattle.lst_log.specs.Logs.{StopsSo}
use Rattle.lst_log.specs.Stores.{opened}
use Rattle.lst_log.specs.Journals.{StandsFor}
use Rattle.lst_redo.specs.declared.journal.Kept.{Kept}
use Rattle.lst_redo.specs.declared.journal.Kept.TheVariants.{Reply as Replied, JournalFull, DiskFault}
use Rattle.lst_redo.specs.declared.journal.Redo.{Redo}
use Rattle.lst_redo.specs.Journals.{view_of, IsCrewFor}
use Rattle.lst_redo.specs.Owns.{commit_of}

-- a line commits an open transaction that has writes
abbrev pub CommitsWrites : View → Line → Type 0
CommitsWrites v (CallLine s CommitCall) = ((knows v s).is_open ≡ true) × (0 < length (knows v s).own)
CommitsWrites v line = ⊥

-- an image stands for these commits and the one that the line makes
abbrev pub StandsForOneMore : ℕ → View → List Commit → Line → List ℕ → Type 0
StandsForOneMore columns v commits (CallLine s CommitCall) image = StandsFor columns image (commits ++ commit_of v s ∷ [])
StandsForOneMore columns v commits line image = ⊥

-- while the line is answered, and until the next call, a crash may leave the commits of the journal; and where it commits writes, these and its commit
abbrev pub MayLeave : ℕ → View → List Commit → Line → List ℕ → Type 0
MayLeave columns v commits line image = StandsFor columns image commits ⊎ (CommitsWrites v line × StandsForOneMore columns v commits line image)

-- the disk failed for want of calls while the line's commit was written: with three left what is written stands for the commits and this one, with fewer for
-- the commits; and what is synced for the commits
abbrev pub StopsAt : ℕ → View → List Commit → Line → Option ℕ → List ℕ → Option CrashOutcome → Type 0
StopsAt columns v commits (CallLine s CommitCall) calls content outcome = StopsSo columns commits (commit_of v s ∷ []) calls content outcome
StopsAt columns v commits line calls content outcome = ⊥

-- the commits that the journal stands for once the line was answered: one more where that is that it committed
abbrev pub commits_after : View → List Commit → Line → Kept → List Commit
commits_after v commits (CallLine s CommitCall) (Replied (Committed time)) = commits ++ commit_of v s ∷ []
commits_after v commits line kept = commits

-- the crew's limits have room for the commits and the one that the line makes, given a tail for each write
abbrev pub HasRoomAfter : View → List Commit → Line → Type 0
HasRoomAfter v commits (CallLine s CommitCall) = HasRoomFor (with_tails v.limits (writes_in (commits ++ commit_of v s ∷ []))) (commits ++ commit_of v s ∷ [])
HasRoomAfter v commits line = ⊥

-- a reply is the machine's; else the line commits writes, and the crew is as it was
abbrev pub IsAnswered : View → View → Line → Kept → Type 0
IsAnswered v w line (Replied answer) = AnswersLine v w line answer
IsAnswered v w line kept = CommitsWrites v line × (w ≡ v)

-- the line commits writes, and their record or the byte behind it needs a place past the disk's end
abbrev pub LacksRoom : View → Line → ℕ → ℕ → ℕ → Type 0
LacksRoom v (CallLine s CommitCall) columns end size = ((knows v s).is_open ≡ true) × (0 < length (knows v s).own) × (size < end + length (record_of columns (commit_of v s)) + 1)
LacksRoom v line columns end size = ⊥

-- four calls of a disk: where it tells how many it will still make, the fault comes exactly where fewer than four are left
abbrev pub TakesFour : Option ℕ → Option ℕ → Kept → Type 0
TakesFour None after kept = after ≡ None
TakesFour (Some left) after kept = ((kept ≡ DiskFault) ↔ (left < 4)) × (after ≡ Some (left - 4))

-- a commit with writes takes four calls unless the journal is full, and no other line takes any
abbrev pub CountsLine : View → Line → Option ℕ → Option ℕ → Kept → Type 0
CountsLine v line before after JournalFull = after ≡ before
CountsLine v line before after kept = (CommitsWrites v line → TakesFour before after kept) × (¬ CommitsWrites v line → after ≡ before)

-- a commit of writes that was answered Committed has its record on the disk behind an open gate, and a byte 0 behind it; nothing else changed
abbrev pub IsWritten : View → Line → ℕ → ℕ → List ℕ → List ℕ → Kept → Type 0
IsWritten v (CallLine s CommitCall) columns end old new (Replied (Committed time)) = new ≡ opened old end (body columns (commit_of v s) ++ 0 ∷ [])
IsWritten v line columns end old new kept = Unit {0}

-- the crew alone answered: the log is as it was, and the crew has the same commits, also where memory is wanting
pub record CrewAnswers {D : Type 0} (old new : Redo D) (line : Line) (result : Result Kept OutOfMemory) : Type 0 where
  pub log : new.log ≡ old.log
  pub failed : new.failed ≡ old.failed
  pub store : new.store ≡ old.store
  pub crew_of : IsCrewOf new.store new.crew
  pub reply : IfOk result (λ kept. (answer : Reply) × (kept ≡ Replied answer) × AnswersLine (view_of old) (view_of new) line answer)
  pub none : IfOk result (λ kept. (commits : List Commit) → commits_after (view_of old) commits line kept ≡ commits)
  pub crew : (commits : List Commit) → IsCrewFor commits old → IsCrewFor commits new
  pub memory : OnErr result (KeepsState (view_of old) (view_of new))
  pub looks : OnErr result (LineLooks (view_of old) (view_of new) line)
