-- What a line promises of the session that calls: by its reply, what the session has found, seen and done.
use Rattle.std.specs.Prelude.{◌≡◌, ◌≢◌, ℕ, [], true, false, Some, None}
use Rattle.lst_model.specs.declared.acts.Act.{Act}
use Rattle.lst_model.specs.declared.acts.Act.TheVariants.{Put, Set, Del}
use Rattle.lst_model.specs.declared.lines.Call.{Call}
use Rattle.lst_model.specs.declared.lines.Call.TheVariants as call
use Rattle.lst_model.specs.declared.lines.Line.{Line}
use Rattle.lst_model.specs.declared.lines.Line.TheVariants as line
use Rattle.lst_model.specs.declared.replies.Reply.{Reply}
use Rattle.lst_model.specs.declared.replies.Reply.TheVariants.{Begun, Done, Row, Absent, Committed, Ended, Aborted, Refused, Silent, Merged, NothingNew, NoFrame}
use Rattle.lst_model.specs.declared.replies.Cause.TheVariants as cause
use Rattle.lst_rule.specs.declared.view.View.{View}
use Rattle.lst_rule.specs.Rule.{knows}
use Rattle.lst_session.specs.declared.kinds.WriteRefusal.{WriteRefusal}
use Rattle.lst_session.specs.declared.kinds.Merge.TheVariants as merges
use Rattle.lst_session.specs.Merges.{Merges}
use Rattle.lst_session.specs.Calls.{Begins, IsAhead, Gets, Accepts, Refuses, Cause, Commits, Ends}
use Rattle.lst_session.specs.Crews.{SavesTails}
use Rattle.lst_session.specs.Replies.{write_cause}

-- whether a transaction is open
abbrev pub IsOpen : View → ℕ → Type 0
IsOpen v s = (knows v s).is_open ≡ true

abbrev pub IsClosed : View → ℕ → Type 0
IsClosed v s = (knows v s).is_open ≡ false

-- none is, and the session may begin another one
abbrev pub CanBegin : View → ℕ → Type 0
CanBegin v s = IsClosed v s × ((knows v s).number ≢ v.limits.txns)

abbrev pub IsSpent : View → ℕ → Type 0
IsSpent v s = IsClosed v s × ((knows v s).number ≡ v.limits.txns)

abbrev pub BeginLeaves : View → View → ℕ → Reply → Type 0
BeginLeaves v w s (Begun b) = CanBegin v s × Begins v w s b b false
BeginLeaves v w s (Refused cause.Active) = IsOpen v s × (w ≡ v)
BeginLeaves v w s (Refused cause.Spent) = IsSpent v s × (w ≡ v)
BeginLeaves v w s answer = ⊥

abbrev pub AsOfLeaves : View → View → ℕ → ℕ → Reply → Type 0
AsOfLeaves v w s time (Begun b) = CanBegin v s × (b ≡ time) × ((clock : ℕ) × Begins v w s clock time true)
AsOfLeaves v w s time (Refused cause.Active) = IsOpen v s × (w ≡ v)
AsOfLeaves v w s time (Refused cause.Spent) = IsSpent v s × (w ≡ v)
AsOfLeaves v w s time (Refused (cause.Future clock)) = CanBegin v s × IsAhead v w s clock time
AsOfLeaves v w s time answer = ⊥

abbrev pub GetLeaves : View → View → ℕ → ℕ → Reply → Type 0
GetLeaves v w s key (Row row) = IsOpen v s × Gets v w s key (Some row)
GetLeaves v w s key Absent = IsOpen v s × Gets v w s key None
GetLeaves v w s key (Refused cause.Idle) = IsClosed v s × (w ≡ v)
GetLeaves v w s key answer = ⊥

-- a write of the act on the key, which draws at most so many records
abbrev pub WriteLeaves : View → View → ℕ → ℕ → ℕ → Act → Reply → Type 0
WriteLeaves v w s key most act Done = Accepts v w s key most act
WriteLeaves v w s key most act (Refused why) = (refusal : WriteRefusal) × (why ≡ write_cause refusal) × Refuses v w s key most × Cause v w s key act refusal
WriteLeaves v w s key most act answer = ⊥

abbrev pub CommitLeaves : View → View → ℕ → Reply → Type 0
CommitLeaves v w s (Committed time) = IsOpen v s × Commits v w s time
CommitLeaves v w s (Ended time) = IsOpen v s × (time ≡ (knows v s).begin) × ((knows v s).own ≡ []) × Ends v w s
CommitLeaves v w s (Refused cause.Idle) = IsClosed v s × (w ≡ v)
CommitLeaves v w s answer = ⊥

abbrev pub AbortLeaves : View → View → ℕ → Reply → Type 0
AbortLeaves v w s Aborted = IsOpen v s × Ends v w s
AbortLeaves v w s (Refused cause.Idle) = IsClosed v s × (w ≡ v)
AbortLeaves v w s answer = ⊥

-- by the call; scans are told of elsewhere
abbrev pub SessionLeaves : View → View → ℕ → Call → Reply → Type 0
SessionLeaves v w s call.Begin answer = BeginLeaves v w s answer
SessionLeaves v w s (call.AsOf time) answer = AsOfLeaves v w s time answer
SessionLeaves v w s (call.Get key) answer = GetLeaves v w s key answer
SessionLeaves v w s (call.Insert key row) answer = WriteLeaves v w s key 1 (Put row) answer
SessionLeaves v w s (call.Update key patch) answer = WriteLeaves v w s key 0 (Set patch) answer
SessionLeaves v w s (call.Delete key) answer = WriteLeaves v w s key 0 Del answer
SessionLeaves v w s (call.Sum column) answer = ⊥
SessionLeaves v w s call.Count answer = ⊥
SessionLeaves v w s call.Scan answer = ⊥
SessionLeaves v w s (call.Find column number) answer = ⊥
SessionLeaves v w s call.Commit answer = CommitLeaves v w s answer
SessionLeaves v w s call.Abort answer = AbortLeaves v w s answer

-- by a crew's call: of a get also where it loads no word of a tail record
abbrev pub CallLeaves : View → View → ℕ → Call → Reply → Type 0
CallLeaves v w s (call.Get key) answer = GetLeaves v w s key answer × SavesTails v w s key
CallLeaves v w s call answer = SessionLeaves v w s call answer

-- a merge, by what the merger found and made
abbrev pub MergeLeaves : View → View → ℕ → ℕ → Reply → Type 0
MergeLeaves v w range column (Merged tps) = Merges v w range column (merges.Merged tps)
MergeLeaves v w range column (NothingNew tps) = Merges v w range column (merges.Idle tps)
MergeLeaves v w range column (NoFrame s) = Merges v w range column (merges.NoFrame s)
MergeLeaves v w range column answer = ⊥

-- by the line
abbrev pub LineLeaves : View → View → Line → Reply → Type 0
LineLeaves v w line.Phase answer = (answer ≡ Silent) × (w ≡ v)
LineLeaves v w (line.Merge range column) answer = MergeLeaves v w range column answer
LineLeaves v w (line.Call s call) answer = CallLeaves v w s call answer
