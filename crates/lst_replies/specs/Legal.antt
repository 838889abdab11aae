-- Legal reports: what a store may answer to a script, whatever the schedule. There are nine rules, and a commit history under which all of
-- them hold. The second rule leaves no choice of that history.
use Rattle.std.specs.Prelude.{◌≡◌, ◌≢◌, ℕ, ◌<◌, ◌≤◌, List, map, length, Some, IfSome, IsSomeAnd}
use Rattle.std.specs.List.{Contains, AllPairs}
use Rattle.lst_layout.specs.declared.limits.Limits.{Limits}
use Rattle.lst_model.specs.declared.acts.Write.{Write}
use Rattle.lst_model.specs.declared.commits.Commit.{Commit}
use Rattle.lst_model.specs.declared.lines.Line.{Line}
use Rattle.lst_model.specs.declared.lines.Call.{Call as CallKind}
use Rattle.lst_model.specs.declared.replies.Reply.{Reply}
use Rattle.lst_model.specs.Soundness.{IsSound}
use Rattle.lst_replies.specs.declared.reports.Stamp.{Stamp}
use Rattle.lst_replies.specs.declared.reports.Report.{Report}
use Rattle.lst_replies.specs.declared.states.Transaction.{Transaction}
use Rattle.lst_replies.specs.declared.states.SessionState.{SessionState}
use Rattle.lst_replies.specs.Runs.{Answered, run_of, AtEachCall, AtEachMerge, write_of, commit_time, commit_times}
use Rattle.lst_replies.specs.ReplyKinds.{HaveReplyShape}
use Rattle.lst_replies.specs.States.{state_of, commit_of, floor_of}
use Rattle.lst_replies.specs.Explained.{commit_at, TimeIsBounded, ReadIsAnswered, StateIsTold, WriteIsAnswered, ConflictIsExplained, FullnessIsExplained, MergeIsAnswered}

-- a commit without its writes
abbrev pub stamp_of : Commit → Stamp
stamp_of commit = record { session = commit.session; number = commit.number; begin = commit.begin }

-- a call that is answered with a commit time has its transaction, with all its writes, in the history at that time
abbrev pub IsEntered : List Commit → List Answered → ℕ → CallKind → Reply → Type 0
IsEntered history before session call reply = IfSome (commit_time reply) (λ time.
    IsSomeAnd (state_of session before).current (λ transaction. commit_at history time ≡ Some (commit_of session transaction)))

-- The history matches the committed replies: the report names its commits, each is told to its session exactly once, as its session's state
-- has it, and the history is sound.
pub record HistoryMatches (run : List Answered) (stamps : List Stamp) (history : List Commit) : Type 0 where
  pub named : map stamp_of history ≡ stamps
  pub entered : AtEachCall (IsEntered history) run
  pub told : (time : ℕ) → 0 < time → time ≤ length history → Contains (commit_times run) time
  pub once : AllPairs (λ time other. time ≢ other) (commit_times run)
  pub sound : IsSound history

-- at each write of a session with an open transaction; without one, a write is refused by the session's state
abbrev pub AtEachWrite : (List Answered → ℕ → Transaction → Write → Reply → Type 0) → List Answered → Type 0
AtEachWrite P run = AtEachCall (λ before session call reply.
    IfSome (state_of session before).current (λ transaction. IfSome (write_of call) (λ write. P before session transaction write reply))) run

-- the nine rules, with a relation of what a session's state tells of a call's reply
pub record FollowsRules (Told : Limits → SessionState → CallKind → Reply → Type 0) (limits : Limits) (lines : List Line) (report : Report) (history : List Commit) : Type 0 where
  -- reply shape
  pub shape : HaveReplyShape lines report.replies
  -- the history matches the committed replies
  pub matches : HistoryMatches (run_of lines report.replies) report.history history
  -- time bounds
  pub times : AtEachCall (λ before session call reply. TimeIsBounded history (floor_of session before) call reply) (run_of lines report.replies)
  -- reads answer their snapshot
  pub reads : AtEachCall (λ before session call reply. ReadIsAnswered limits history (state_of session before).current call reply) (run_of lines report.replies)
  -- state refusals are exact
  pub refusals : AtEachCall (λ before session call reply. Told limits (state_of session before) call reply) (run_of lines report.replies)
  -- write replies fit the snapshot
  pub writes : AtEachWrite (λ before session transaction write reply. WriteIsAnswered history transaction write reply) (run_of lines report.replies)
  -- latch and open-transaction conflicts are explained
  pub conflicts : AtEachWrite (λ before session transaction write reply. ConflictIsExplained history (run_of lines report.replies) session transaction write reply) (run_of lines report.replies)
  -- full table and full range are explained
  pub fullness : AtEachWrite (λ before session transaction write reply. FullnessIsExplained limits history (run_of lines report.replies) before session transaction write reply) (run_of lines report.replies)
  -- merge replies are consistent
  pub merges : AtEachMerge (λ before range column reply. MergeIsAnswered limits (run_of lines report.replies) before range column reply) (run_of lines report.replies)

-- under snapshot isolation that relation is exact
abbrev pub IsLegal : Limits → List Line → Report → List Commit → Type 0
IsLegal limits lines report history = FollowsRules StateIsTold limits lines report history

-- a report that a store with these limits may give to a script of these lines
abbrev pub IsLegalReport : Limits → List Line → Report → Type 0
IsLegalReport limits lines report = (history : List Commit) × IsLegal limits lines report history
