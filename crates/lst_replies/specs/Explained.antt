-- What a reply needs at its place in a run, under a commit history.
use Rattle.std.specs.Prelude.{◌≡◌, ◌≢◌, ℕ, ◌-◌, ◌*◌, ◌<◌, ◌≤◌, List, [], ◌∷◌, ◌++◌, Bool, true, false, not, ◌&&◌, ◌==◌, nat_le, if◌then◌else◌, cond, Option, Some, None, is_some, IsSome, IsNone, IfSome, IsSomeAnd, IsTrue, IsFalse, length, take, slice_get}
use Rattle.std.specs.List.{list_any, count_by, fold}
use Rattle.lst_layout.specs.declared.limits.Limits.{Limits}
use Rattle.lst_model.specs.declared.acts.Write.{Write}
use Rattle.lst_model.specs.declared.commits.Commit.{Commit}
use Rattle.lst_model.specs.declared.lines.Line.{Line}
use Rattle.lst_model.specs.declared.lines.Line.TheVariants.{Merge, Call}
use Rattle.lst_model.specs.declared.lines.Call.{Call as CallKind}
use Rattle.lst_model.specs.declared.lines.Call.TheVariants.{Begin, AsOf, Get, Sum, Count, Scan, Find, Commit as CommitCall}
use Rattle.lst_model.specs.declared.replies.Reply.{Reply}
use Rattle.lst_model.specs.declared.replies.Reply.TheVariants.{Begun, Done, Row, Absent, Committed, Ended, Sum as SumReply, Count as CountReply, Rows as RowsReply, Keys, Refused, Merged, NothingNew, NoFrame}
use Rattle.lst_model.specs.declared.replies.Cause.{Cause}
use Rattle.lst_model.specs.declared.replies.Cause.TheVariants.{Idle, Active, ReadOnly, Spent, Future, Missing, Exists, TableFull, Latched, Newer, Unfinished, TailFull, NotIndexed}
use Rattle.lst_model.specs.Tables.{Rows, row_of, sum_of, count_of, scan_of, find_of}
use Rattle.lst_model.specs.Soundness.{Fits}
use Rattle.lst_machine.specs.Calls.{first_of, where_true}
use Rattle.lst_machine.specs.Scans.{lacks_index}
use Rattle.lst_replies.specs.declared.states.Transaction.{Transaction}
use Rattle.lst_replies.specs.declared.states.SessionState.{SessionState}
use Rattle.lst_replies.specs.Runs.{Answered, answered, names, write_of, key_of, is_by, is_begun, is_merged, is_accepted, is_accepted_on, may_take_record, may_take_latch}
use Rattle.lst_replies.specs.States.{state_of, sight_of}

-- ---- commits

-- the commit at a time, or none
abbrev pub commit_at : List Commit → ℕ → Option Commit
commit_at history time = if time == 0 then None else slice_get history (time - 1)

-- a commit has a write on the key
abbrev pub has_write_on : ℕ → Commit → Bool
has_write_on key commit = list_any (λ (write : Write). write.key == key) commit.writes

-- a commit is this session's, with this number
abbrev pub is_numbered : ℕ → ℕ → Commit → Bool
is_numbered session number commit = commit.session == session && commit.number == number

-- ---- times

-- A begin is told the floor or more, an as-of the time that it names, and both at most the time of the last commit. A time that an
-- as-of finds in the future is above the clock that it is told. A commit gets a time above the floor.
abbrev pub TimeIsBounded : List Commit → ℕ → CallKind → Reply → Type 0
TimeIsBounded history floor Begin (Begun time) = (floor ≤ time) × (time ≤ length history)
TimeIsBounded history floor (AsOf named) (Begun time) = (time ≡ named) × (time ≤ length history)
TimeIsBounded history floor (AsOf named) (Refused (Future clock)) = (floor ≤ clock) × (clock ≤ length history) × (clock < named)
TimeIsBounded history floor call (Committed time) = floor < time
TimeIsBounded history floor call reply = Unit {0}

-- ---- reads

-- a reply with rows, keys or numbers tells what the transaction sees
abbrev pub TellsSight : Rows → CallKind → Reply → Type 0
TellsSight sight (Get key) (Row row) = row_of sight key ≡ Some row
TellsSight sight (Get key) Absent = row_of sight key ≡ None
TellsSight sight (Sum column) (SumReply total) = total ≡ sum_of sight column
TellsSight sight Count (CountReply rows) = rows ≡ count_of sight
TellsSight sight Scan (RowsReply list) = list ≡ scan_of sight
TellsSight sight (Find column value) (Keys list) = list ≡ find_of sight column value
TellsSight sight call reply = Unit {0}

abbrev pub is_not_indexed_reply : Reply → Bool
is_not_indexed_reply (Refused NotIndexed) = true
is_not_indexed_reply reply = false

-- NotIndexed is answered exactly where a transaction is open and the find's column has no index
pub record ReadIsAnswered (limits : Limits) (history : List Commit) (current : Option Transaction) (call : CallKind) (reply : Reply) : Type 0 where
  pub sight : IfSome current (λ transaction. TellsSight (sight_of history transaction) call reply)
  pub index : is_not_indexed_reply reply ≡ (is_some current && lacks_index limits call)

-- ---- refusals by the session's state, and ends

-- the cause that a reply tells, where the session's state alone can be that cause
abbrev pub state_cause : Reply → Option Cause
state_cause (Refused Idle) = Some Idle
state_cause (Refused Active) = Some Active
state_cause (Refused ReadOnly) = Some ReadOnly
state_cause (Refused Spent) = Some Spent
state_cause reply = None

-- a begin, or an as-of, needs that none is open, and a number that is left
abbrev pub begin_cause : Limits → SessionState → Option Cause
begin_cause limits state =
    first_of (where_true (is_some state.current) Active
    ∷ where_true (nat_le limits.txns state.begun) Spent
    ∷ [])

-- every other call needs an open transaction, and a write one that isn't read-only
abbrev pub open_cause : Bool → Option Transaction → Option Cause
open_cause writes None = Some Idle
open_cause writes (Some transaction) = where_true (writes && transaction.read_only) ReadOnly

-- the cause for which the session's state alone refuses a call, or none
abbrev pub cause_by_state : Limits → SessionState → CallKind → Option Cause
cause_by_state limits state Begin = begin_cause limits state
cause_by_state limits state (AsOf time) = begin_cause limits state
cause_by_state limits state call = open_cause (is_some (write_of call)) state.current

-- a transaction with writes ends with a commit time, one without with its begin
abbrev pub EndsBy : ℕ → List Write → Reply → Type 0
EndsBy begin [] reply = reply ≡ Ended begin
EndsBy begin (write ∷ writes) reply = (time : ℕ) × (reply ≡ Committed time)

abbrev pub EndIsExact : Option Transaction → CallKind → Reply → Type 0
EndIsExact (Some transaction) CommitCall reply = EndsBy transaction.begin transaction.writes reply
EndIsExact current call reply = Unit {0}

-- Idle, Active, ReadOnly and Spent are answered exactly where the session's state refuses the call for this cause
pub record StateIsTold (limits : Limits) (state : SessionState) (call : CallKind) (reply : Reply) : Type 0 where
  pub refusal : state_cause reply ≡ cause_by_state limits state call
  pub end : EndIsExact state.current call reply

-- ---- writes

-- an accepted write fits what its transaction sees; the key is there, or isn't; a newer commit wrote it
abbrev pub WriteIsAnswered : List Commit → Transaction → Write → Reply → Type 0
WriteIsAnswered history transaction write Done = Fits (row_of (sight_of history transaction) write.key) write.act
WriteIsAnswered history transaction write (Refused Exists) = IsSome (row_of (sight_of history transaction) write.key)
WriteIsAnswered history transaction write (Refused Missing) = IsNone (row_of (sight_of history transaction) write.key)
WriteIsAnswered history transaction write (Refused (Newer time)) = (transaction.begin < time) × IsSomeAnd (commit_at history time) (λ commit. IsTrue (has_write_on write.key commit))
WriteIsAnswered history transaction write reply = Unit {0}

-- a session's transaction of this number has a write on the key that was accepted, somewhere in the run
pub record HasAccepted (run : List Answered) (session number key : ℕ) : Type 0 where
  pub before : List Answered
  pub call : CallKind
  pub after : List Answered
  pub place : run ≡ before ++ answered (Call session call) Done ∷ after
  pub on_key : names key (key_of (write_of call)) ≡ true
  pub transaction : IsSomeAnd (state_of session before).current (λ transaction. transaction.number ≡ number)

-- another session's transaction is in the way: it has an accepted write on the key, and has not committed by the begin
pub record IsInTheWay (history : List Commit) (run : List Answered) (session key begin other number : ℕ) : Type 0 where
  pub another : other ≢ session
  pub accepted : HasAccepted run other number key
  pub uncommitted : IsFalse (list_any (is_numbered other number) (take begin history))

-- a latch was found held by a line of another session, anywhere in the run
abbrev pub ConflictIsExplained : List Commit → List Answered → ℕ → Transaction → Write → Reply → Type 0
ConflictIsExplained history run session transaction write (Refused Latched) = IsTrue (list_any (λ one. not (is_by session one) && may_take_latch write.key one) run)
ConflictIsExplained history run session transaction write (Refused (Unfinished other number)) = IsInTheWay history run session write.key transaction.begin other number
ConflictIsExplained history run session transaction write reply = Unit {0}

-- a key that neither a commit by the begin nor an accepted write of the session before has written
pub record IsNewKey (history : List Commit) (before : List Answered) (session begin key : ℕ) : Type 0 where
  pub uncommitted : IsFalse (list_any (has_write_on key) (take begin history))
  pub unwritten : IsFalse (list_any (λ one. is_by session one && is_accepted_on key one) before)

-- The table is full for a new key where as many inserts as it has records may have taken one. A range is full where as many writes were
-- accepted as it has tail records.
abbrev pub FullnessIsExplained : Limits → List Commit → List Answered → List Answered → ℕ → Transaction → Write → Reply → Type 0
FullnessIsExplained limits history run before session transaction write (Refused TableFull) = IsNewKey history before session transaction.begin write.key × (256 * limits.ranges ≤ count_by may_take_record run)
FullnessIsExplained limits history run before session transaction write (Refused TailFull) = limits.tails ≤ count_by is_accepted run
FullnessIsExplained limits history run before session transaction write reply = Unit {0}

-- ---- merges

-- the number that a reply to a merge of this range and column tells as merged, or else the one before
abbrev pub merged_after : ℕ → ℕ → ℕ → Answered → ℕ
merged_after range column last one = by_line one.line one.reply
  where
    by_line : Line → Reply → ℕ
    by_line (Merge other place) (Merged tps) = cond (other == range && place == column) tps last
    by_line line reply = last

-- the number last merged of a range and column, or 0
abbrev pub last_merged : ℕ → ℕ → List Answered → ℕ
last_merged range column before = fold (merged_after range column) 0 before

-- Merged numbers rise, and no more is merged than was accepted. A frame is wanting where all spare ones were swapped in, and the
-- session that holds one has begun a transaction, anywhere in the run.
abbrev pub MergeIsAnswered : Limits → List Answered → List Answered → ℕ → ℕ → Reply → Type 0
MergeIsAnswered limits run before range column (Merged tps) = (last_merged range column before < tps) × (tps ≤ count_by is_accepted run)
MergeIsAnswered limits run before range column (NothingNew tps) = tps ≡ last_merged range column before
MergeIsAnswered limits run before range column (NoFrame session) = (limits.spare ≤ count_by (λ one. is_merged one.reply) before) × IsTrue (list_any (λ one. is_by session one && is_begun one.reply) run)
MergeIsAnswered limits run before range column reply = Unit {0}
