-- What is kept of a run to judge the conflicts that it tells.
use Rattle.std.specs.Prelude.{◌≡◌, ◌↔◌, ℕ, ◌+◌, ◌<◌, ◌==◌, nat_lt, ◌&&◌, ◌||◌, not, Bool, true, false, cond, List, Option, Some, None, IfSome, IsTrue, IsSomeAnd}
use Rattle.std.specs.List.{list_any}
use Rattle.lst_model.specs.declared.commits.Commit.{Commit}
use Rattle.lst_model.specs.declared.lines.Line.TheVariants.{Call}
use Rattle.lst_model.specs.declared.lines.Call.{Call as CallKind}
use Rattle.lst_model.specs.declared.replies.Reply.TheVariants.{Done}
use Rattle.lst_replies.specs.Runs.{Answered, answered, write_of, key_of, names, is_by, may_take_latch}
use Rattle.lst_replies.specs.States.{state_of}
use Rattle.lst_replies.specs.Explained.{HasAccepted, ConflictIsExplained}
use Rattle.lst_legal_runs.specs.declared.outlines.OpenOutline.{OpenOutline}
use Rattle.lst_legal_runs.specs.declared.marks.Marks.{Marks}
use Rattle.lst_legal_runs.specs.declared.conflicts.Conflicts.{Conflicts}
use Rattle.lst_legal_runs.specs.Marks.{number_at}
use Rattle.lst_legal_runs.specs.Places.{IfCall}
use Rattle.lst_legal_runs.specs.Firsts.{AreFirstNumbers}

-- ---- latches

-- of a key: the session that was found first to have taken its latch, plus one, and a mark where another has, too
abbrev pub another_took : ℕ → ℕ → ℕ → Bool
another_took first other session = cond (first == 0) false (not (first == session + 1) || nat_lt 0 other)

-- by key: which sessions may have taken its latch
pub record AreTakers (marks : Marks) (run : List Answered) : Type 0 where
  pub others : (key session : ℕ) → list_any (λ one. not (is_by session one) && may_take_latch key one) run ≡ another_took (number_at marks key 0 0) (number_at marks key 1 0) session
  pub none : (key : ℕ) → number_at marks key 0 0 ≡ 0 → number_at marks key 1 0 ≡ 0

-- there is a session with a key, and it is this one with this key
abbrev pub takes_latch : ℕ → ℕ → Option (ℕ × ℕ) → Bool
takes_latch session key None = false
takes_latch session key (Some both) = not (both.0 == session) && both.1 == key

-- ---- accepted writes

-- a line behind the front of a run is an accepted write on a key by a session's transaction of this number
pub record AcceptsHere (before : List Answered) (one : Answered) (session number key : ℕ) : Type 0 where
  pub call : CallKind
  pub is : one ≡ answered (Call session call) Done
  pub on_key : names key (key_of (write_of call)) ≡ true
  pub transaction : IsSomeAnd (state_of session before).current (λ transaction. transaction.number ≡ number)

-- there are a session, a number and a key, and they are these
abbrev pub names_all : ℕ → ℕ → ℕ → Option (ℕ × ℕ × ℕ) → Bool
names_all session number key None = false
names_all session number key (Some all) = (all.0 == session && all.1 == number) && all.2 == key

-- the session, number and key of an accepted write
abbrev pub numbered_write : ℕ → Option OpenOutline → Option ℕ → Bool → Option (ℕ × ℕ × ℕ)
numbered_write session None key done = None
numbered_write session (Some outline) None done = None
numbered_write session (Some outline) (Some key) done = cond done (Some (session, outline.number, key)) None

abbrev pub IsAcceptedAt : List Answered → Answered → Option (ℕ × ℕ × ℕ) → Type 0
IsAcceptedAt before one found = (session number key : ℕ) → IsTrue (names_all session number key found) ↔ AcceptsHere before one session number key

-- by session, number and key: whether there is an accepted write
pub record AreAccepted (marks : Marks) (run : List Answered) : Type 0 where
  pub each : (session number key : ℕ) → (0 < number_at marks session number key) ↔ HasAccepted run session number key

-- ---- all of it

pub record IsConflictsOf (conflicts : Conflicts) (history : List Commit) (run : List Answered) : Type 0 where
  pub takers : AreTakers conflicts.takers run
  pub accepted : AreAccepted conflicts.accepted run
  pub firsts : AreFirstNumbers conflicts.firsts history

abbrev pub TellsConflict : List Commit → List Answered → List Answered → Answered → Type 0
TellsConflict history run before one = IfCall (λ session call reply.
    IfSome (state_of session before).current (λ transaction. IfSome (write_of call) (λ write. ConflictIsExplained history run session transaction write reply))) one.line one.reply
