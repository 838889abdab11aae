-- Which kinds of reply a line can have.
use Rattle.std.specs.Prelude.{ℕ, Bool, true, false, ◌||◌, List, [], ◌∷◌, Option, is_some}
use Rattle.std.specs.Prelude.{◌≡◌}
use Rattle.lst_model.specs.declared.lines.Line.{Line}
use Rattle.lst_model.specs.declared.lines.Line.TheVariants.{Phase, Merge, Call}
use Rattle.lst_model.specs.declared.lines.Call.{Call as CallKind}
use Rattle.lst_model.specs.declared.lines.Call.TheVariants.{Begin, AsOf, Get, Insert, Update, Delete, Sum, Count, Scan, Find, Commit, Abort}
use Rattle.lst_model.specs.declared.replies.Reply.{Reply}
use Rattle.lst_model.specs.declared.replies.Reply.TheVariants.{Begun, Done, Row, Absent, Committed, Ended, Aborted, Sum as SumReply, Count as CountReply, Rows, Keys, Refused, Merged, NothingNew, NoFrame}
use Rattle.lst_model.specs.declared.replies.Cause.{Cause}
use Rattle.lst_model.specs.declared.replies.Cause.TheVariants.{Idle, Active, ReadOnly, Spent, Future, Missing, Exists, TableFull, Latched, Newer, Unfinished, TailFull, NotIndexed, Stale}
use Rattle.lst_replies.specs.Runs.{speaker_of, write_of}

-- what a begin is refused for, and an as-of too
abbrev pub is_begin_cause : Cause → Bool
is_begin_cause Active = true
is_begin_cause Spent = true
is_begin_cause cause = false

-- what any write is refused for
abbrev pub is_write_cause : Cause → Bool
is_write_cause Idle = true
is_write_cause ReadOnly = true
is_write_cause Latched = true
is_write_cause (Newer time) = true
is_write_cause (Unfinished session number) = true
is_write_cause TailFull = true
is_write_cause cause = false

abbrev pub is_idle : Cause → Bool
is_idle Idle = true
is_idle cause = false

abbrev pub is_future : Cause → Bool
is_future (Future clock) = true
is_future cause = false

abbrev pub is_not_indexed : Cause → Bool
is_not_indexed NotIndexed = true
is_not_indexed cause = false

abbrev pub is_stale : Cause → Bool
is_stale (Stale time) = true
is_stale cause = false

abbrev pub is_missing : Cause → Bool
is_missing Missing = true
is_missing cause = false

-- an insert finds the key there, or the table full
abbrev pub is_insert_cause : Cause → Bool
is_insert_cause Exists = true
is_insert_cause TableFull = true
is_insert_cause cause = false

-- what a call can be refused for
abbrev pub can_refuse : CallKind → Cause → Bool
can_refuse Begin cause = is_begin_cause cause
can_refuse (AsOf time) cause = is_begin_cause cause || is_future cause
can_refuse (Get key) cause = is_idle cause
can_refuse (Insert key row) cause = is_write_cause cause || is_insert_cause cause
can_refuse (Update key patch) cause = is_write_cause cause || is_missing cause
can_refuse (Delete key) cause = is_write_cause cause || is_missing cause
can_refuse (Sum column) cause = is_idle cause
can_refuse Count cause = is_idle cause
can_refuse Scan cause = is_idle cause
can_refuse (Find column value) cause = is_idle cause || is_not_indexed cause
can_refuse Commit cause = is_idle cause || is_stale cause
can_refuse Abort cause = is_idle cause

abbrev pub begins : CallKind → Bool
begins Begin = true
begins (AsOf time) = true
begins call = false

abbrev pub is_get : CallKind → Bool
is_get (Get key) = true
is_get call = false

abbrev pub is_sum : CallKind → Bool
is_sum (Sum column) = true
is_sum call = false

abbrev pub is_count : CallKind → Bool
is_count Count = true
is_count call = false

abbrev pub is_scan : CallKind → Bool
is_scan Scan = true
is_scan call = false

abbrev pub is_find : CallKind → Bool
is_find (Find column value) = true
is_find call = false

abbrev pub is_commit : CallKind → Bool
is_commit Commit = true
is_commit call = false

abbrev pub is_abort : CallKind → Bool
is_abort Abort = true
is_abort call = false

-- whether a reply is of a kind that answers a call
abbrev pub can_answer : CallKind → Reply → Bool
can_answer call (Begun time) = begins call
can_answer call Done = is_some (write_of call)
can_answer call (Row row) = is_get call
can_answer call Absent = is_get call
can_answer call (Committed time) = is_commit call
can_answer call (Ended time) = is_commit call
can_answer call Aborted = is_abort call
can_answer call (SumReply total) = is_sum call
can_answer call (CountReply rows) = is_count call
can_answer call (Rows list) = is_scan call
can_answer call (Keys list) = is_find call
can_answer call (Refused cause) = can_refuse call cause
can_answer call reply = false

-- whether a reply is of a kind that answers a merge
abbrev pub can_answer_merge : Reply → Bool
can_answer_merge (Merged tps) = true
can_answer_merge (NothingNew tps) = true
can_answer_merge (NoFrame session) = true
can_answer_merge reply = false

-- whether a reply of a report can answer a line; none answers the end of a phase
abbrev pub can_answer_line : Line → Reply → Bool
can_answer_line Phase reply = false
can_answer_line (Merge range column) reply = can_answer_merge reply
can_answer_line (Call session call) reply = can_answer call reply

-- a reply to this line: its session, or none where it is a merge, and a kind that answers it
pub record AnswersLine (line : Line) (reply : Option ℕ × Reply) : Type 0 where
  pub session : reply.0 ≡ speaker_of line
  pub kind : can_answer_line line reply.1 ≡ true

-- one reply for each line but the ends of phases, in order
abbrev pub HaveReplyShape : List Line → List (Option ℕ × Reply) → Type 0
HaveReplyShape [] [] = Unit {0}
HaveReplyShape [] (reply ∷ replies) = ⊥
HaveReplyShape (Phase ∷ lines) replies = HaveReplyShape lines replies
HaveReplyShape (Merge range column ∷ lines) [] = ⊥
HaveReplyShape (Merge range column ∷ lines) (reply ∷ replies) = AnswersLine (Merge range column) reply × HaveReplyShape lines replies
HaveReplyShape (Call session call ∷ lines) [] = ⊥
HaveReplyShape (Call session call ∷ lines) (reply ∷ replies) = AnswersLine (Call session call) reply × HaveReplyShape lines replies
