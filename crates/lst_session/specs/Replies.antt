-- What the calls of a crew answer, as replies of the machine.
use Rattle.std.specs.Prelude.{ℕ, List, Option, Result, Ok, Err}
use Rattle.lst_model.specs.Cells.{Cell}
use Rattle.lst_model.specs.declared.replies.Reply.{Reply}
use Rattle.lst_model.specs.declared.replies.Reply.TheVariants.{Begun, Done, Committed, Ended, Aborted, Refused, Merged, NothingNew, NoFrame}
use Rattle.lst_model.specs.declared.replies.Cause.{Cause}
use Rattle.lst_model.specs.declared.replies.Cause.TheVariants as cause
use Rattle.lst_model.specs.declared.lines.Call.{Call}
use Rattle.lst_model.specs.declared.lines.Call.TheVariants.{Begin, AsOf, Get, Insert, Update, Delete, Sum, Count, Scan, Find, Commit as CommitCall, Abort}
use Rattle.lst_model.specs.declared.lines.Line.{Line}
use Rattle.lst_model.specs.declared.lines.Line.TheVariants.{Phase, Merge as MergeLine, Call as CallLine}
use Rattle.lst_txn.specs.declared.begins.BeginFault.{BeginFault}
use Rattle.lst_txn.specs.declared.begins.BeginFault.TheVariants as begins
use Rattle.lst_txn.specs.declared.ends.Idle.{Idle}
use Rattle.lst_session.specs.declared.kinds.WriteRefusal.{WriteRefusal}
use Rattle.lst_session.specs.declared.kinds.WriteRefusal.TheVariants as writes
use Rattle.lst_session.specs.declared.kinds.Outcome.{Outcome}
use Rattle.lst_session.specs.declared.kinds.Outcome.TheVariants as outcome
use Rattle.lst_session.specs.declared.kinds.Merge.{Merge}
use Rattle.lst_session.specs.declared.kinds.Merge.TheVariants as merges
use Rattle.lst_machine.specs.Calls.{row_reply}

abbrev pub begin_cause : BeginFault → Cause
begin_cause begins.Active = cause.Active
begin_cause begins.Spent = cause.Spent
begin_cause (begins.Future clock) = cause.Future clock

abbrev pub begin_reply : Result ℕ BeginFault → Reply
begin_reply (Ok time) = Begun time
begin_reply (Err fault) = Refused (begin_cause fault)

abbrev pub get_reply : Result (Option (List Cell)) Idle → Reply
get_reply (Ok row) = row_reply row
get_reply (Err none) = Refused cause.Idle

abbrev pub write_cause : WriteRefusal → Cause
write_cause writes.Idle = cause.Idle
write_cause writes.ReadOnly = cause.ReadOnly
write_cause writes.Missing = cause.Missing
write_cause writes.Exists = cause.Exists
write_cause writes.TableFull = cause.TableFull
write_cause writes.Latched = cause.Latched
write_cause (writes.Newer time) = cause.Newer time
write_cause (writes.Unfinished session number) = cause.Unfinished session number
write_cause writes.TailFull = cause.TailFull

abbrev pub write_reply : Result (Unit {0}) WriteRefusal → Reply
write_reply (Ok done) = Done
write_reply (Err refusal) = Refused (write_cause refusal)

abbrev pub commit_reply : Result Outcome Idle → Reply
commit_reply (Ok (outcome.Committed time)) = Committed time
commit_reply (Ok (outcome.Ended time)) = Ended time
commit_reply (Err none) = Refused cause.Idle

abbrev pub abort_reply : Result (Unit {0}) Idle → Reply
abort_reply (Ok done) = Aborted
abort_reply (Err none) = Refused cause.Idle

abbrev pub merge_reply : Merge → Reply
merge_reply (merges.Merged tps) = Merged tps
merge_reply (merges.Idle tps) = NothingNew tps
merge_reply (merges.NoFrame session) = NoFrame session

-- the lines that the crew takes: all but scans
abbrev pub IsCrewCall : Call → Type 0
IsCrewCall Begin = Unit {0}
IsCrewCall (AsOf time) = Unit {0}
IsCrewCall (Get key) = Unit {0}
IsCrewCall (Insert key row) = Unit {0}
IsCrewCall (Update key patch) = Unit {0}
IsCrewCall (Delete key) = Unit {0}
IsCrewCall (Sum column) = ⊥
IsCrewCall Count = ⊥
IsCrewCall Scan = ⊥
IsCrewCall (Find column number) = ⊥
IsCrewCall CommitCall = Unit {0}
IsCrewCall Abort = Unit {0}

abbrev pub IsCrewLine : Line → Type 0
IsCrewLine Phase = Unit {0}
IsCrewLine (MergeLine range column) = Unit {0}
IsCrewLine (CallLine session call) = IsCrewCall call

-- the calls that a session answers without waiting: all but scans, which others answer, and commits
abbrev pub IsPromptCall : Call → Type 0
IsPromptCall CommitCall = ⊥
IsPromptCall call = IsCrewCall call
