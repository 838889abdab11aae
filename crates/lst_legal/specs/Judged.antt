-- The rules of a legal report but for the shape of its replies, over a run.
use Rattle.std.specs.Prelude.{ℕ, ◌<◌, List, IfSome}
use Rattle.std.specs.List.{All}
use Rattle.lst_layout.specs.declared.limits.Limits.{Limits}
use Rattle.lst_model.specs.declared.commits.Commit.{Commit}
use Rattle.lst_replies.specs.declared.reports.Report.{Report}
use Rattle.lst_replies.specs.declared.reports.Stamp.{Stamp}
use Rattle.lst_replies.specs.Runs.{Answered, AtEachCall, AtEachMerge, speaker_of}
use Rattle.lst_model.specs.declared.lines.Line.{Line}
use Rattle.lst_replies.specs.States.{state_of, floor_of}
use Rattle.lst_replies.specs.Explained.{TimeIsBounded, ReadIsAnswered, WriteIsAnswered, ConflictIsExplained, FullnessIsExplained, MergeIsAnswered}
use Rattle.lst_replies.specs.Legal.{AtEachWrite, HistoryMatches, IsLegalReport}
use Rattle.lst_legal_runs.specs.declared.levels.Level.{Level}
use Rattle.lst_legal_runs.specs.declared.levels.Level.TheVariants.{Snapshot, Serializable}
use Rattle.lst_legal_runs.specs.Rules.{StateIsToldAt}
use Rattle.lst_serial_laws.specs.Legal.{IsAtSerialPlace, StaleIsExplained, IsLegalSerialReport}

-- the sessions of a script are below a number
abbrev pub AreSessionsBelow : ℕ → List Line → Type 0
AreSessionsBelow sessions lines = All (λ line. IfSome (speaker_of line) (λ session. session < sessions)) lines

-- those that speak of single lines, under a history, with the level's own on ends
pub record FollowsRules (level : Level) (limits : Limits) (history : List Commit) (run : List Answered) : Type 0 where
  pub times : AtEachCall (λ before session call reply. TimeIsBounded history (floor_of session before) call reply) run
  pub reads : AtEachCall (λ before session call reply. ReadIsAnswered limits history (state_of session before).current call reply) run
  pub refusals : AtEachCall (λ before session call reply. StateIsToldAt level limits (state_of session before) call reply) run
  pub writes : AtEachWrite (λ before session transaction write reply. WriteIsAnswered history transaction write reply) run
  pub conflicts : AtEachWrite (λ before session transaction write reply. ConflictIsExplained history run session transaction write reply) run
  pub fullness : AtEachWrite (λ before session transaction write reply. FullnessIsExplained limits history run before session transaction write reply) run
  pub merges : AtEachMerge (λ before range column reply. MergeIsAnswered limits run before range column reply) run

-- the two that the serializable level adds
pub record FollowsSerial (history : List Commit) (run : List Answered) : Type 0 where
  pub places : AtEachCall (λ before session call reply. IsAtSerialPlace history session (state_of session before).current call reply) run
  pub stales : AtEachCall (λ before session call reply. StaleIsExplained history before session (state_of session before).current reply) run

-- what a level adds
abbrev pub FollowsLevel : Level → List Commit → List Answered → Type 0
FollowsLevel Snapshot history run = Unit {0}
FollowsLevel Serializable history run = FollowsSerial history run

pub record FollowsAll (level : Level) (limits : Limits) (history : List Commit) (run : List Answered) : Type 0 where
  pub rules : FollowsRules level limits history run
  pub added : FollowsLevel level history run

-- all of them hold under a history that matches the committed replies
pub record IsJudged (level : Level) (limits : Limits) (run : List Answered) (stamps : List Stamp) : Type 0 where
  pub history : List Commit
  pub matches : HistoryMatches run stamps history
  pub all : FollowsAll level limits history run

-- a report that a store with these limits may give at a level
abbrev pub IsLegalAt : Level → Limits → List Line → Report → Type 0
IsLegalAt Snapshot limits lines report = IsLegalReport limits lines report
IsLegalAt Serializable limits lines report = IsLegalSerialReport limits lines report
