-- What the open transactions of a run see, line by line.
use Rattle.std.specs.Prelude.{◌≡◌, ℕ, ◌+◌, ◌<◌, List, length, slice_index_or, Option, Some, None, IfSome, Bool, is_some, IsSome, IsNone, IsSomeAnd, IsTrue}
use Rattle.lst_layout.specs.declared.limits.Limits.{Limits}
use Rattle.lst_model.specs.declared.acts.Write.{Write}
use Rattle.lst_model.specs.declared.commits.Commit.{Commit}
use Rattle.lst_model.specs.Histories.{StandByKey}
use Rattle.lst_replies.specs.declared.states.Transaction.{Transaction}
use Rattle.lst_replies.specs.declared.states.SessionState.{SessionState}
use Rattle.lst_replies.specs.Runs.{Answered, write_of}
use Rattle.lst_replies.specs.States.{state_of}
use Rattle.lst_replies.specs.Explained.{ReadIsAnswered, WriteIsAnswered, commit_at, has_write_on}
use Rattle.lst_model.specs.Cells.{Cell}
use Rattle.lst_model.specs.declared.replies.Reply.{Reply}
use Rattle.lst_model.specs.declared.replies.Reply.TheVariants.{Begun, Done, Refused}
use Rattle.lst_model.specs.declared.replies.Cause.TheVariants.{Exists, Missing, Newer}
use Rattle.lst_legal_runs.specs.Places.{IfCall}
use Rattle.lst_snapshots.specs.declared.sight.Sight.{Sight}
use Rattle.lst_snapshots.specs.Sights.{IsSight}

-- a sight is what a transaction with these writes sees as of a time
pub record Shows (history : List Commit) (sight : Option Sight) (time : ℕ) (writes : List Write) : Type 0 where
  pub now : Sight
  pub is : sight ≡ Some now
  pub shows : IsSight now history time writes
  pub ordered : StandByKey writes

-- as of a time, if there is one; and else there is no sight
abbrev pub ShowsAt : List Commit → Option Sight → List Write → Option ℕ → Type 0
ShowsAt history sight writes None = sight ≡ None
ShowsAt history sight writes (Some time) = Shows history sight time writes

-- by a transaction's number and begin: the time as of which it is looked at
abbrev pub from_begin : ℕ → ℕ → Option ℕ
from_begin number begin = Some begin

-- a sight is what the open transaction sees, if there is one
abbrev pub IsSightOf : List Commit → (ℕ → ℕ → Option ℕ) → Option Sight → SessionState → Type 0
IsSightOf history at sight state = (transaction : Transaction) → state.current ≡ Some transaction → ShowsAt history sight transaction.writes (at transaction.number transaction.begin)

-- by number: what the sessions' open transactions see behind the front of a run
abbrev pub AreSights : List Commit → (ℕ → ℕ → ℕ → Option ℕ) → List (Option Sight) → List Answered → Type 0
AreSights history at sights front = (session : ℕ) → session < length sights → IsSightOf history (at session) (slice_index_or sights session None) (state_of session front)

-- the begin that a reply tells, or none
abbrev pub begun_time : Reply → Option ℕ
begun_time (Begun time) = Some time
begun_time reply = None

-- what is looked at from a begin on, where the reply tells one: the time for the number that comes next
abbrev pub Opens : (ℕ → ℕ → Option ℕ) → SessionState → Reply → Option ℕ → Type 0
Opens at state reply opening = IfSome (begun_time reply) (λ begin. opening ≡ at (state.begun + 1) begin)

-- what is asked of the replies that tell what a transaction sees
pub record TellsSeen (limits : Limits) (history : List Commit) (before : List Answered) (one : Answered) : Type 0 where
  pub read : IfCall (λ session call reply. ReadIsAnswered limits history (state_of session before).current call reply) one.line one.reply
  pub write : IfCall (λ session call reply. IfSome (state_of session before).current (λ transaction. IfSome (write_of call) (λ write. WriteIsAnswered history transaction write reply))) one.line one.reply

-- what is asked of the reply to a write on a key with this row, which has to be there, or not
abbrev pub IsKeyAnswered : List Commit → Option (List Cell) → ℕ → ℕ → Bool → Reply → Type 0
IsKeyAnswered history row begin key wanted Done = is_some row ≡ wanted
IsKeyAnswered history row begin key wanted (Refused Exists) = IsSome row
IsKeyAnswered history row begin key wanted (Refused Missing) = IsNone row
IsKeyAnswered history row begin key wanted (Refused (Newer time)) = (begin < time) × IsSomeAnd (commit_at history time) (λ commit. IsTrue (has_write_on key commit))
IsKeyAnswered history row begin key wanted reply = Unit {0}
