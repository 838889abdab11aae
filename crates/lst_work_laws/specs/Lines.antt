-- One line of a session: how what the session knows before it and after it stand to each other, by the reply.
use Rattle.std.specs.Prelude.{◌≡◌, ◌⊎◌, ℕ, ◌+◌, ◌≤◌, List, [], ◌∷◌, ◌++◌, true, false, not, ◌&&◌, cond, Option, Some, None, IfSome, IsSomeAnd, length}
use Rattle.lst_layout.specs.declared.limits.Limits.{Limits}
use Rattle.lst_model.specs.declared.acts.Write.{Write}
use Rattle.lst_model.specs.declared.commits.Commit.{Commit}
use Rattle.lst_model.specs.declared.lines.Call.{Call}
use Rattle.lst_model.specs.declared.replies.Reply.{Reply}
use Rattle.lst_model.specs.declared.replies.Reply.TheVariants.{Begun, Done, Committed, Refused}
use Rattle.lst_model.specs.declared.replies.Cause.TheVariants.{TableFull, Latched, Unfinished, TailFull}
use Rattle.lst_model.specs.Histories.{Extends}
use Rattle.lst_core_state.specs.declared.known.Known.{Known}
use Rattle.lst_core_state.specs.State.{mine}
use Rattle.lst_rule.specs.declared.view.View.{View}
use Rattle.lst_rule.specs.Rule.{knows}
use Rattle.lst_rule.specs.Seen.{HasKey}
use Rattle.lst_index.specs.Placings.{Drew, DrawsAfterLook, FoundFull}
use Rattle.lst_session.specs.Calls.{Called, IsTailOf, FindsLatch, FindsUnfinished, FindsTails}
use Rattle.lst_replies.specs.declared.states.Transaction.{Transaction}
use Rattle.lst_replies.specs.declared.states.SessionState.{SessionState}
use Rattle.lst_replies.specs.Runs.{write_of, key_of, is_insert_call, takes_no_record, takes_no_latch}
use Rattle.lst_replies.specs.States.{after_call, commit_of, time_told}
use Rattle.lst_replies.specs.Explained.{commit_at, TimeIsBounded, ReadIsAnswered, WriteIsAnswered}
use Rattle.lst_replies.specs.Levels.{StateIsToldAtAnyLevel}
use Rattle.lst_replies.specs.ReplyKinds.{can_answer}

-- ---- the state of a session, as its view tells it

abbrev pub transaction_told : Known → Transaction
transaction_told k = record { number = k.number; begin = k.begin; read_only = k.read_only; writes = k.own }

abbrev pub session_told : Known → SessionState
session_told k = record { begun = k.number; current = cond k.is_open (Some (transaction_told k)) None }

-- ---- what a reply tells

-- the rules of a legal report that speak of one line of one session: its times, reads, refusals by the session's state, and writes. The one on ends is
-- that of any level of isolation
pub record Tells (limits : Limits) (history : List Commit) (floor : ℕ) (state : SessionState) (call : Call) (reply : Reply) : Type 0 where
  pub times : TimeIsBounded history floor call reply
  pub reads : ReadIsAnswered limits history state.current call reply
  pub refusals : StateIsToldAtAnyLevel limits state call reply
  pub writes : IfSome state.current (λ transaction. IfSome (write_of call) (λ write. WriteIsAnswered history transaction write reply))

-- ---- what a reply leaves

-- the session's transaction, which was open, is the commit at this time, and its last one
pub record IsLastCommit (v w : View) (s time : ℕ) : Type 0 where
  pub was : (knows v s).is_open ≡ true
  pub at : commit_at (knows w s).seen time ≡ Some (commit_of s (transaction_told (knows v s)))
  pub mine : mine s (knows w s) ≡ mine s (knows v s) ++ commit_of s (transaction_told (knows v s)) ∷ []

-- the session's commits: one more where a commit time is told
abbrev pub LeavesCommits : View → View → ℕ → Reply → Type 0
LeavesCommits v w s (Committed time) = IsLastCommit v w s time
LeavesCommits v w s reply = mine s (knows w s) ≡ mine s (knows v s)

-- a write on the record of its key, in a tail of the record's range
pub record IsLastWrite (v w : View) (s key : ℕ) : Type 0 where
  pub rec : ℕ
  pub tail : ℕ
  pub placed : HasKey (knows w s).facts rec key
  pub belongs : IsTailOf w.limits rec tail
  pub done : (knows w s).done ≡ (knows v s).done ++ record { number = (knows v s).number; rec = rec; tail = tail } ∷ []

-- the writes that the session ever made: one more where a write is accepted
abbrev pub LeavesWrites : View → View → ℕ → Option Write → Reply → Type 0
LeavesWrites v w s (Some write) Done = IsLastWrite v w s write.key
LeavesWrites v w s write reply = (knows w s).done ≡ (knows v s).done

-- the records that the session ever drew: one more at most, by an insert for a key that was found without one
pub record LeavesDrawn (v w : View) (s : ℕ) (call : Call) (reply : Reply) : Type 0 where
  pub drew : Drew (knows v s).placing (knows w s).placing (cond (is_insert_call call && not (takes_no_record reply)) 1 0)
  pub after_look : IfSome (key_of (write_of call)) (DrawsAfterLook v w s)

-- the record of the key is the last one that it latched
pub record IsLastLatch (v w : View) (s key : ℕ) : Type 0 where
  pub rec : ℕ
  pub placed : HasKey (knows w s).facts rec key
  pub latched : (knows w s).latched ≡ (knows v s).latched ++ rec ∷ []

-- the records that the session ever latched: one more at most, the key's, by a write that wasn't refused before the latch
abbrev pub LeavesLatched : View → View → ℕ → Option ℕ → Reply → Type 0
LeavesLatched v w s key reply = ((knows w s).latched ≡ (knows v s).latched) ⊎ ((takes_no_latch reply ≡ false) × IsSomeAnd key (IsLastLatch v w s))

-- the number of pins that the session ever set: one more where a begin is told
abbrev pub LeavesPins : View → View → ℕ → Reply → Type 0
LeavesPins v w s (Begun time) = (knows w s).pages.pins ≡ (knows v s).pages.pins + 1
LeavesPins v w s reply = (knows w s).pages.pins ≡ (knows v s).pages.pins

-- ---- what stands behind a refusal of a write on the key

abbrev pub IsFound : View → View → ℕ → ℕ → Reply → Type 0
IsFound v w s key (Refused Latched) = FindsLatch v w s key
IsFound v w s key (Refused (Unfinished j n)) = FindsUnfinished v w s key j n
IsFound v w s key (Refused TableFull) = FoundFull v w s key
IsFound v w s key (Refused TailFull) = FindsTails v w s key
IsFound v w s key reply = Unit {0}

-- ---- the line

-- The session s, with the view v before the line and w after it, has answered the call. What the reply tells is so for each floor that the
-- session had seen before the line, and under each history that goes on from what it has seen after it
pub record AfterLine (s : ℕ) (call : Call) (reply : Reply) (v w : View) : Type 0 where
  pub called : Called v w s
  pub kind : can_answer call reply ≡ true
  pub tells : (floor : ℕ) (history : List Commit) → floor ≤ length (knows v s).seen → Extends history (knows w s).seen → Tells v.limits history floor (session_told (knows v s)) call reply
  pub told : IfSome (time_told reply) (λ time. time ≤ length (knows w s).seen)
  pub state : session_told (knows w s) ≡ after_call call reply (session_told (knows v s))
  pub commits : LeavesCommits v w s reply
  pub writes : LeavesWrites v w s (write_of call) reply
  pub drawn : LeavesDrawn v w s call reply
  pub latched : LeavesLatched v w s (key_of (write_of call)) reply
  pub pins : LeavesPins v w s reply
  pub found : IfSome (key_of (write_of call)) (λ key. IsFound v w s key reply)
