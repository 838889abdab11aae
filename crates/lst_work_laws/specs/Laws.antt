-- What the replies to a session's lines tell together, and what they leave of what the session knows.
use Rattle.std.specs.Prelude.{◌≡◌, ◌⊎◌, ℕ, ◌+◌, ◌≤◌, map, List, [], ◌∷◌, ◌++◌, Bool, true, false, ◌&&◌, IsTrue, IsSomeAnd, IfSome, Option, Some, length}
use Rattle.std.specs.List.{count_by, list_any, Contains}
use Rattle.lst_layout.specs.declared.limits.Limits.{Limits}
use Rattle.lst_model.specs.declared.commits.Commit.{Commit}
use Rattle.lst_model.specs.declared.lines.Line.{Line}
use Rattle.lst_model.specs.declared.lines.Line.TheVariants.{Call}
use Rattle.lst_model.specs.declared.lines.Call.{Call as CallKind}
use Rattle.lst_model.specs.declared.replies.Reply.{Reply}
use Rattle.lst_model.specs.declared.replies.Reply.TheVariants.{Done, Refused}
use Rattle.lst_model.specs.declared.replies.Cause.{Cause}
use Rattle.lst_model.specs.declared.replies.Cause.TheVariants.{Latched, Unfinished, TableFull, TailFull}
use Rattle.lst_model.specs.Histories.{Extends}
use Rattle.lst_core_state.specs.declared.facts.Find.{Find}
use Rattle.lst_core_state.specs.declared.facts.Find.TheVariants.{LatchedRecord, UnfinishedVersion, FullRecords, FullTails}
use Rattle.lst_core_state.specs.declared.known.Known.{Known}
use Rattle.lst_core_state.specs.declared.known.Done.{Done as Deed}
use Rattle.lst_core_state.specs.State.{mine}
use Rattle.lst_rule.specs.Copies.{Includes}
use Rattle.lst_rule.specs.Seen.{HasKey}
use Rattle.lst_replies.specs.declared.states.Transaction.{Transaction}
use Rattle.lst_replies.specs.declared.states.SessionState.{SessionState}
use Rattle.lst_replies.specs.Runs.{Answered, answered, commit_time, is_by, is_begun, names, key_of, write_of, is_accepted, may_take_record, may_take_latch}
use Rattle.lst_replies.specs.States.{after_line, state_from, commit_of}
use Rattle.lst_replies.specs.Explained.{commit_at}
use Rattle.lst_work_laws.specs.Lines.{session_told, Tells}
use Rattle.lst_work_laws.specs.Runs.{lines_of}
use Rattle.lst_work_laws.specs.Orders.{replies_from}

-- lines with their replies
abbrev pub answered_all : List Line → List Reply → List Answered
answered_all [] replies = []
answered_all (line ∷ lines) [] = []
answered_all (line ∷ lines) (reply ∷ replies) = answered line reply ∷ answered_all lines replies

-- What the reply to a line of the session s tells: by those rules, and where it is a commit time, the commit at that time is the transaction
pub record TellsLine (limits : Limits) (history : List Commit) (floor s : ℕ) (state : SessionState) (call : CallKind) (reply : Reply) : Type 0 where
  pub rules : Tells limits history floor state call reply
  pub entered : IfSome (commit_time reply) (λ time. IsSomeAnd state.current (λ transaction. commit_at history time ≡ Some (commit_of s transaction)))

-- the transaction that is open, as a commit, where a commit time is told
abbrev pub commit_told : ℕ → Option ℕ → Option Transaction → List Commit
commit_told s (Some time) (Some transaction) = commit_of s transaction ∷ []
commit_told s time current = []

-- the commits that the replies tell
abbrev pub commits_told : ℕ → SessionState → List Answered → List Commit
commits_told s state [] = []
commits_told s state (one ∷ rest) = commit_told s (commit_time one.reply) state.current ++ commits_told s (after_line s one state) rest

-- a reply that refuses for one of these causes
abbrev pub refuses_for : (Cause → Bool) → Reply → Bool
refuses_for causes (Refused cause) = causes cause
refuses_for causes reply = false

abbrev pub is_latched_find : Find → Bool
is_latched_find (LatchedRecord rec) = true
is_latched_find find = false

abbrev pub is_latched_cause : Cause → Bool
is_latched_cause Latched = true
is_latched_cause cause = false

abbrev pub is_unfinished_find : Find → Bool
is_unfinished_find (UnfinishedVersion about tail session number begin) = true
is_unfinished_find find = false

abbrev pub is_unfinished_cause : Cause → Bool
is_unfinished_cause (Unfinished session number) = true
is_unfinished_cause cause = false

abbrev pub is_full_table_find : Find → Bool
is_full_table_find FullRecords = true
is_full_table_find find = false

abbrev pub is_full_table_cause : Cause → Bool
is_full_table_cause TableFull = true
is_full_table_cause cause = false

abbrev pub is_full_range_find : Find → Bool
is_full_range_find (FullTails range) = true
is_full_range_find find = false

abbrev pub is_full_range_cause : Cause → Bool
is_full_range_cause TailFull = true
is_full_range_cause cause = false

-- finds of a kind have come, one for each line that was refused for such a cause, or more
abbrev pub AreFound : (Find → Bool) → (Cause → Bool) → List Answered → Known → Known → Type 0
AreFound finds causes own before now = count_by finds before.finds + count_by (λ one. refuses_for causes one.reply) own ≤ count_by finds now.finds

-- an accepted write among these lines, on the key of this record, by the transaction of this number
pub record HasWritten (s : ℕ) (state : SessionState) (own : List Answered) (now : Known) (deed : Deed) : Type 0 where
  pub key : ℕ
  pub placed : HasKey now.facts deed.rec key
  pub before : List Answered
  pub call : CallKind
  pub after : List Answered
  pub place : own ≡ before ++ answered (Call s call) Done ∷ after
  pub on_key : names key (key_of (write_of call)) ≡ true
  pub transaction : IsSomeAnd (state_from state s before).current (λ transaction. transaction.number ≡ deed.number)

-- a line among these that may have held the latch of this record
pub record HasHeld (s : ℕ) (own : List Answered) (now : Known) (rec : ℕ) : Type 0 where
  pub key : ℕ
  pub placed : HasKey now.facts rec key
  pub held : IsTrue (list_any (λ one. is_by s one && may_take_latch key one) own)

-- a line that is answered with a begin
abbrev pub tells_begun : Answered → Bool
tells_begun one = is_begun one.reply

-- What these lines of its own leave of what the session s knows: its state is as the replies tell, and its commits have grown by those that they
-- name. It has begun as many transactions, and set as many pins, as begins were told. It has found as many latches, unfinished versions, full
-- tables and full ranges as they tell of, or more. It has made the writes that were accepted, and drawn no more records than inserts may have
-- taken; behind each write is a line that was accepted, and behind each latch that it held a line that may have held it.
pub record Leaves (s : ℕ) (own : List Answered) (before now : Known) : Type 0 where
  pub seen : Extends now.seen before.seen
  pub state : session_told now ≡ state_from (session_told before) s own
  pub mine : mine s now ≡ mine s before ++ commits_told s (session_told before) own
  pub number : now.number ≡ before.number + count_by tells_begun own
  pub pins : now.pages.pins ≡ before.pages.pins + count_by tells_begun own
  pub latches : AreFound is_latched_find is_latched_cause own before now
  pub unfinished : AreFound is_unfinished_find is_unfinished_cause own before now
  pub full_table : AreFound is_full_table_find is_full_table_cause own before now
  pub full_range : AreFound is_full_range_find is_full_range_cause own before now
  pub done : length now.done ≡ length before.done + count_by is_accepted own
  pub drawn : length now.placing.drawn ≤ length before.placing.drawn + count_by may_take_record own
  pub facts : Includes now.facts before.facts
  pub writes : (deed : Deed) → Contains now.done deed → Contains before.done deed ⊎ HasWritten s (session_told before) own now deed
  pub latched : (rec : ℕ) → Contains now.latched rec → Contains before.latched rec ⊎ HasHeld s own now rec

-- ---- a phase

-- the lines of a phase with the replies, in order
abbrev pub phase_run : List Line → List (Option ℕ × Reply) → List Answered
phase_run lines replies = answered_all lines (map (λ reply. reply.1) replies)

-- ---- between phases

-- a session's own lines of a phase with their replies
abbrev pub own_run : ℕ → ℕ → List Line → List (Option ℕ × Reply) → List Answered
own_run sessions s lines replies = answered_all (lines_of s lines) (replies_from sessions s replies)
