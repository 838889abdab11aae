-- What a session at work keeps along its own lines, by its level of isolation: at the serializable level what its open transaction has read, so that
-- each call ends its transaction in place, or stays with its reason.
use Rattle.std.specs.Prelude.{◌≡◌, ◌⊎◌, ℕ, ◌<◌, ◌≤◌, List, [], ◌∷◌, ◌++◌, Bool, true, false, ◌||◌, cond, length, Option, IfSome, IsSomeAnd, IsNone, IsTrue, slice_index_or}
use Rattle.std.specs.List.{filter}
use Rattle.lst_layout.specs.declared.limits.Limits.{Limits}
use Rattle.lst_model.specs.declared.commits.Commit.{Commit}
use Rattle.lst_model.specs.declared.lines.Line.{Line}
use Rattle.lst_model.specs.declared.lines.Line.TheVariants.{Call}
use Rattle.lst_model.specs.declared.lines.Call.{Call as CallKind}
use Rattle.lst_model.specs.declared.replies.Reply.{Reply}
use Rattle.lst_model.specs.Histories.{Extends}
use Rattle.lst_core_state.specs.declared.known.Known.{Known}
use Rattle.lst_rule.specs.declared.view.View.{View}
use Rattle.lst_rule.specs.Rule.{knows}
use Rattle.lst_replies.specs.declared.reports.Report.{Report}
use Rattle.lst_replies.specs.declared.states.Transaction.{Transaction}
use Rattle.lst_replies.specs.declared.states.SessionState.{SessionState}
use Rattle.lst_replies.specs.Runs.{Answered, answered, names, is_by, is_begun, commit_time}
use Rattle.lst_replies.specs.States.{state_from}
use Rattle.lst_replies.specs.Explained.{commit_at, has_write_on}
use Rattle.lst_replies.specs.Levels.{stale_time}
use Rattle.lst_replies.specs.Legal.{IsLegal}
use Rattle.lst_legal_runs.specs.declared.levels.Level.{Level}
use Rattle.lst_legal_runs.specs.declared.levels.Level.TheVariants.{Snapshot, Serializable}
use Rattle.lst_serial_laws.specs.Places.{IsInPlace}
use Rattle.lst_serial_laws.specs.Legal.{lines_since_begin, key_of_call, reads_table, IsLegalSerial}
use Rattle.lst_serial_laws.specs.Ends.{is_key_named, is_table_read, EndsInPlace}
use Rattle.lst_session.specs.declared.session.Session.{Session}
use Rattle.lst_session.specs.Parting.{known_by}
use Rattle.lst_work_laws.specs.Lines.{session_told, AfterLine}

-- what a session knows, and what it keeps of its reads: keys, or that it has read all
pub record Pass : Type 0 where
  pub known : Known
  pub reads : ℕ → Bool
  pub whole : Bool

-- ---- its own lines

-- under snapshot isolation no commit is told stale; at the serializable level a call ends its transaction in place, or stays with its reason
abbrev pub EndsAt : Level → List Commit → List Answered → ℕ → Option Transaction → Reply → Type 0
EndsAt Snapshot history before session current reply = IsNone (stale_time reply)
EndsAt Serializable history before session current reply = EndsInPlace history before session current reply

-- each of the session's own lines does so, under what it has seen and each longer history; it came to them in this state
abbrev pub EndAll : Level → SessionState → ℕ → List Answered → List Commit → Type 0
EndAll level state s own seen = (history : List Commit) → Extends history seen → (before : List Answered) (call : CallKind) (reply : Reply) (after : List Answered)
    → own ≡ before ++ answered (Call s call) reply ∷ after → EndsAt level history before s (state_from state s before).current reply

-- at the serializable level what it keeps of its reads is what these lines have read
abbrev pub KeepsReads : Level → List Answered → (ℕ → Bool) → Bool → Type 0
KeepsReads Snapshot lines reads whole = Unit {0}
KeepsReads Serializable lines reads whole = ((key : ℕ) → reads key ≡ is_key_named lines key) × (whole ≡ is_table_read lines)

-- what it keeps of its own lines
pub record Keeps (level : Level) (state : SessionState) (s : ℕ) (own : List Answered) (pass : Pass) : Type 0 where
  pub told : session_told pass.known ≡ state_from state s own
  pub ends : EndAll level state s own pass.known.seen
  pub reads : KeepsReads level (lines_since_begin s own) pass.reads pass.whole

-- whatever its lines were before these: what it kept of them, it keeps of them and these
abbrev pub CarriesOn : Level → ℕ → List Answered → Pass → Pass → Type 0
CarriesOn level s lines old new = (state : SessionState) (own : List Answered) → Keeps level state s own old → Keeps level state s (own ++ lines) new

-- ---- one line

-- a commit behind the begin changed what was read: any, where all keys were, and else one that wrote such a key
pub record IsChanged (history : List Commit) (reads : ℕ → Bool) (whole : Bool) (begin time : ℕ) : Type 0 where
  pub later : begin < time
  pub past : time ≤ length history
  pub read : (whole ≡ true) ⊎ ((key : ℕ) × (reads key ≡ true) × IsSomeAnd (commit_at history time) (λ commit. IsTrue (has_write_on key commit)))

-- A line joins the key that it names, and all keys where it was answered off the whole table; a begin empties both. What was read is in place at a
-- commit, and a stale one was changed.
pub record LineReads (call : CallKind) (reply : Reply) (old new : Pass) : Type 0 where
  pub keys : (key : ℕ) → new.reads key ≡ cond (is_begun reply) false (old.reads key || names key (key_of_call call))
  pub all : new.whole ≡ cond (is_begun reply) false (old.whole || reads_table reply)
  pub placed : IfSome (commit_time reply) (λ time. (history : List Commit) → Extends history new.known.seen → IsInPlace old.reads old.whole history old.known.begin time)
  pub stale : IfSome (stale_time reply) (λ time. (history : List Commit) → Extends history new.known.seen → IsChanged history old.reads old.whole old.known.begin time)

abbrev pub LineEnds : Level → CallKind → Reply → Pass → Pass → Type 0
LineEnds Snapshot call reply old new = IsNone (stale_time reply)
LineEnds Serializable call reply old new = LineReads call reply old new

-- what one worker's lines tell at a level, they tell with one line more
abbrev pub LinesCarryOn : Type 0
LinesCarryOn = (level : Level) (s : ℕ) (call : CallKind) (reply : Reply) (v w : View) (old new : Pass) → old.known ≡ knows v s → new.known ≡ knows w s
    → AfterLine s call reply v w → LineEnds level call reply old new → CarriesOn level s (answered (Call s call) reply ∷ []) old new

-- ---- whole reports

-- of each session, its own lines of a run do so
abbrev pub EachEnds : Level → List Answered → List Session → List Session → Type 0
EachEnds level run old new = (s : ℕ) (d : Session) → s < length old
    → EndAll level (session_told (known_by (slice_index_or old s d))) s (filter (is_by s) run) (known_by (slice_index_or new s d)).seen

-- a report is legal at a level, under a history
abbrev pub IsLegalUnder : Level → Limits → List Line → Report → List Commit → Type 0
IsLegalUnder Snapshot limits lines report history = IsLegal limits lines report history
IsLegalUnder Serializable limits lines report history = IsLegalSerial limits lines report history
