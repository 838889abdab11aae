-- Legal reports at the serializable level: the nine rules with the wider one on ends, each committed transaction answered at its serial place, and
-- each stale commit explained.
use Rattle.std.specs.Prelude.{◌⊎◌, ℕ, ◌-◌, ◌<◌, ◌≤◌, List, [], ◌∷◌, ◌++◌, Bool, true, false, cond, Option, Some, None, IfSome, IsSomeAnd, IsTrue, length}
use Rattle.std.specs.List.{list_any, fold}
use Rattle.lst_layout.specs.declared.limits.Limits.{Limits}
use Rattle.lst_model.specs.declared.commits.Commit.{Commit}
use Rattle.lst_model.specs.declared.lines.Line.{Line}
use Rattle.lst_model.specs.declared.lines.Line.TheVariants.{Phase, Merge, Call}
use Rattle.lst_model.specs.declared.lines.Call.{Call as CallKind}
use Rattle.lst_model.specs.declared.lines.Call.TheVariants.{Get}
use Rattle.lst_model.specs.declared.replies.Reply.{Reply}
use Rattle.lst_model.specs.declared.replies.Reply.TheVariants.{Sum as SumReply, Count as CountReply, Rows as RowsReply, Keys}
use Rattle.lst_model.specs.Histories.{snapshot}
use Rattle.lst_replies.specs.declared.reports.Report.{Report}
use Rattle.lst_replies.specs.declared.states.Transaction.{Transaction}
use Rattle.lst_replies.specs.Runs.{Answered, AtEachCall, run_of, names, write_of, key_of, is_by, is_begun}
use Rattle.lst_replies.specs.States.{state_of}
use Rattle.lst_replies.specs.Explained.{commit_at, has_write_on, is_numbered}
use Rattle.lst_replies.specs.Levels.{stale_time, StateIsToldAtAnyLevel}
use Rattle.lst_replies.specs.Legal.{FollowsRules}
use Rattle.lst_serial_laws.specs.Answers.{IsAnsweredBy}

-- ---- serial places

-- the commit at a time is the session's transaction of this number
abbrev pub IsCommitOf : List Commit → ℕ → ℕ → ℕ → Type 0
IsCommitOf history session number time = IsSomeAnd (commit_at history time) (λ commit. IsTrue (is_numbered session number commit))

-- A call of a transaction that commits is answered at its serial place: by the table as of the time before the commit, with the writes that
-- the transaction has made before the call. Nothing is asked of a call of a transaction that has no commit.
abbrev pub IsAtSerialPlace : List Commit → ℕ → Option Transaction → CallKind → Reply → Type 0
IsAtSerialPlace history session current call reply = IfSome current (λ transaction.
    (time : ℕ) → IsCommitOf history session transaction.number time → IsAnsweredBy (snapshot history (time - 1) transaction.writes) call reply)

-- ---- stale commits

-- a session's lines behind its last begin: while its transaction is open, the lines of that transaction
abbrev pub lines_since_begin : ℕ → List Answered → List Answered
lines_since_begin session run = fold (λ lines one. cond (is_by session one) (cond (is_begun one.reply) [] (lines ++ one ∷ [])) lines) [] run

-- the key that a call names: in a get, or in a write
abbrev pub key_of_call : CallKind → Option ℕ
key_of_call (Get key) = Some key
key_of_call call = key_of (write_of call)

-- the key that a line names
abbrev pub key_named : Line → Option ℕ
key_named Phase = None
key_named (Merge range column) = None
key_named (Call session call) = key_of_call call

-- a reply that was read off the whole table: that to a sum, a count or a scan, or to a find on an indexed column
abbrev pub reads_table : Reply → Bool
reads_table (SumReply total) = true
reads_table (CountReply rows) = true
reads_table (RowsReply list) = true
reads_table (Keys list) = true
reads_table reply = false

-- the commit at a time has a write on a key that one of these lines names, whatever that line's reply
pub record HasWrittenNamed (history : List Commit) (time : ℕ) (lines : List Answered) : Type 0 where
  pub key : ℕ
  pub named : IsTrue (list_any (λ one. names key (key_named one.line)) lines)
  pub wrote : IsSomeAnd (commit_at history time) (λ commit. IsTrue (has_write_on key commit))

-- A transaction with these lines may be told stale for the commit at a time, which is behind its begin: where one of the lines was answered off the
-- whole table, or the commit wrote a key that one of them names.
pub record MayBeStale (history : List Commit) (begin time : ℕ) (lines : List Answered) : Type 0 where
  pub later : begin < time
  pub past : time ≤ length history
  pub read : IsTrue (list_any (λ one. reads_table one.reply) lines) ⊎ HasWrittenNamed history time lines

-- a stale reply to an open transaction is explained; no other reply is asked of
abbrev pub StaleIsExplained : List Commit → List Answered → ℕ → Option Transaction → Reply → Type 0
StaleIsExplained history before session current reply = IfSome current (λ transaction. IfSome (stale_time reply) (λ time. MayBeStale history transaction.begin time (lines_since_begin session before)))

-- ---- whole reports

-- the nine rules with the wider one on ends, and the two that the serializable level adds
pub record IsLegalSerial (limits : Limits) (lines : List Line) (report : Report) (history : List Commit) : Type 0 where
  pub rules : FollowsRules StateIsToldAtAnyLevel limits lines report history
  -- committed transactions are at their serial places
  pub places : AtEachCall (λ before session call reply. IsAtSerialPlace history session (state_of session before).current call reply) (run_of lines report.replies)
  -- stale commits are explained
  pub stales : AtEachCall (λ before session call reply. StaleIsExplained history before session (state_of session before).current reply) (run_of lines report.replies)

-- a report that a store with these limits may give, at the serializable level, to a script of these lines
abbrev pub IsLegalSerialReport : Limits → List Line → Report → Type 0
IsLegalSerialReport limits lines report = (history : List Commit) × IsLegalSerial limits lines report history
