-- A run: the lines of a script, each with the reply to it.
use Rattle.std.specs.Prelude.{◌≡◌, ℕ, List, [], ◌∷◌, ◌++◌, Bool, true, false, not, ◌&&◌, ◌==◌, Option, Some, None, is_some}
use Rattle.std.specs.List.{filter_map}
use Rattle.lst_model.specs.declared.acts.Act.TheVariants.{Put, Set, Del}
use Rattle.lst_model.specs.declared.acts.Write.{Write}
use Rattle.lst_model.specs.declared.lines.Line.{Line}
use Rattle.lst_model.specs.declared.lines.Line.TheVariants.{Phase, Merge, Call}
use Rattle.lst_model.specs.declared.lines.Call.{Call as CallKind}
use Rattle.lst_model.specs.declared.lines.Call.TheVariants.{Insert, Update, Delete}
use Rattle.lst_model.specs.declared.replies.Reply.{Reply}
use Rattle.lst_model.specs.declared.replies.Reply.TheVariants.{Begun, Done, Committed, Merged, Refused, Silent}
use Rattle.lst_model.specs.declared.replies.Cause.TheVariants.{Idle, ReadOnly, TableFull, Latched}

-- a line with the reply to it
pub record Answered : Type 0 where
  pub line : Line
  pub reply : Reply

abbrev pub answered : Line → Reply → Answered
answered line reply = record { line = line; reply = reply }

-- The lines of a script with the replies of a report, in order. A report has no reply to the end of a phase, which is silent.
abbrev pub run_of : List Line → List (Option ℕ × Reply) → List Answered
run_of [] replies = []
run_of (Phase ∷ lines) replies = answered Phase Silent ∷ run_of lines replies
run_of (Merge range column ∷ lines) [] = []
run_of (Merge range column ∷ lines) (reply ∷ replies) = answered (Merge range column) reply.1 ∷ run_of lines replies
run_of (Call session call ∷ lines) [] = []
run_of (Call session call ∷ lines) (reply ∷ replies) = answered (Call session call) reply.1 ∷ run_of lines replies

-- P holds at each call of a run: of what stands before it, its session, the call, and the reply
abbrev pub AtEachCall : (List Answered → ℕ → CallKind → Reply → Type 0) → List Answered → Type 0
AtEachCall P run = (before : List Answered) (session : ℕ) (call : CallKind) (reply : Reply) (after : List Answered)
    → run ≡ before ++ answered (Call session call) reply ∷ after → P before session call reply

-- P holds at each merge of a run: of what stands before it, its range and column, and the reply
abbrev pub AtEachMerge : (List Answered → ℕ → ℕ → Reply → Type 0) → List Answered → Type 0
AtEachMerge P run = (before : List Answered) (range column : ℕ) (reply : Reply) (after : List Answered)
    → run ≡ before ++ answered (Merge range column) reply ∷ after → P before range column reply

-- ---- lines

-- there is a number, and it is this one
abbrev pub names : ℕ → Option ℕ → Bool
names number None = false
names number (Some other) = other == number

-- the session that calls, or none
abbrev pub speaker_of : Line → Option ℕ
speaker_of Phase = None
speaker_of (Merge range column) = None
speaker_of (Call session call) = Some session

-- the write that a call asks for, or none
abbrev pub write_of : CallKind → Option Write
write_of (Insert key row) = Some (record { key = key; act = Put row })
write_of (Update key patch) = Some (record { key = key; act = Set patch })
write_of (Delete key) = Some (record { key = key; act = Del })
write_of call = None

-- the key of a write, or none
abbrev pub key_of : Option Write → Option ℕ
key_of None = None
key_of (Some write) = Some write.key

-- the key on which a line asks for a write, or none
abbrev pub key_written : Line → Option ℕ
key_written Phase = None
key_written (Merge range column) = None
key_written (Call session call) = key_of (write_of call)

abbrev pub is_insert_call : CallKind → Bool
is_insert_call (Insert key row) = true
is_insert_call call = false

abbrev pub is_insert : Line → Bool
is_insert Phase = false
is_insert (Merge range column) = false
is_insert (Call session call) = is_insert_call call

abbrev pub is_phase : Line → Bool
is_phase Phase = true
is_phase line = false

-- ---- replies

abbrev pub is_done : Reply → Bool
is_done Done = true
is_done reply = false

abbrev pub is_begun : Reply → Bool
is_begun (Begun time) = true
is_begun reply = false

abbrev pub is_merged : Reply → Bool
is_merged (Merged tps) = true
is_merged reply = false

-- the time of a commit
abbrev pub commit_time : Reply → Option ℕ
commit_time (Committed time) = Some time
commit_time reply = None

-- an insert that is answered so has taken no record for its key
abbrev pub takes_no_record : Reply → Bool
takes_no_record (Refused Idle) = true
takes_no_record (Refused ReadOnly) = true
takes_no_record (Refused TableFull) = true
takes_no_record reply = false

-- a write that is answered so has not held the latch of its key's record
abbrev pub takes_no_latch : Reply → Bool
takes_no_latch (Refused Latched) = true
takes_no_latch reply = takes_no_record reply

-- ---- lines with their replies

-- a line of this session
abbrev pub is_by : ℕ → Answered → Bool
is_by session one = names session (speaker_of one.line)

-- a write that was accepted
abbrev pub is_accepted : Answered → Bool
is_accepted one = is_some (key_written one.line) && is_done one.reply

-- a write on the key that was accepted
abbrev pub is_accepted_on : ℕ → Answered → Bool
is_accepted_on key one = names key (key_written one.line) && is_done one.reply

-- an insert that may have taken a record
abbrev pub may_take_record : Answered → Bool
may_take_record one = is_insert one.line && not (takes_no_record one.reply)

-- a write on the key that may have held the latch of its record
abbrev pub may_take_latch : ℕ → Answered → Bool
may_take_latch key one = names key (key_written one.line) && not (takes_no_latch one.reply)

-- the times at which commits were answered, in the order of the lines
abbrev pub commit_times : List Answered → List ℕ
commit_times run = filter_map (λ one. commit_time one.reply) run
