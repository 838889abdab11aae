-- How a commit is answered at any level of isolation: it ends its transaction, or is told stale and leaves the transaction open. Under snapshot
-- isolation none is told stale.
use Rattle.std.specs.Prelude.{◌≡◌, ◌⊎◌, ◌↔◌, ℕ, List, [], ◌∷◌, true, Option, Some, None, IsNone}
use Rattle.lst_layout.specs.declared.limits.Limits.{Limits}
use Rattle.lst_model.specs.declared.acts.Write.{Write}
use Rattle.lst_model.specs.declared.commits.Commit.{Commit}
use Rattle.lst_model.specs.declared.lines.Line.{Line}
use Rattle.lst_model.specs.declared.lines.Call.{Call as CallKind}
use Rattle.lst_model.specs.declared.lines.Call.TheVariants.{Commit as CommitCall}
use Rattle.lst_model.specs.declared.replies.Reply.{Reply}
use Rattle.lst_model.specs.declared.replies.Reply.TheVariants.{Committed, Ended, Refused}
use Rattle.lst_model.specs.declared.replies.Cause.TheVariants.{Stale}
use Rattle.lst_replies.specs.declared.reports.Report.{Report}
use Rattle.lst_replies.specs.declared.states.Transaction.{Transaction}
use Rattle.lst_replies.specs.declared.states.SessionState.{SessionState}
use Rattle.lst_replies.specs.Runs.{Answered, AtEachCall, run_of}
use Rattle.lst_replies.specs.ReplyKinds.{can_answer}
use Rattle.lst_replies.specs.Explained.{state_cause, cause_by_state, StateIsTold}
use Rattle.lst_replies.specs.Legal.{FollowsRules, IsLegal}

-- the time of the commit that made another one stale
abbrev pub stale_time : Reply → Option ℕ
stale_time (Refused (Stale time)) = Some time
stale_time reply = None

-- a transaction with writes ends with a commit time, or is told stale; one without ends with its begin
abbrev pub EndsOrStaysBy : ℕ → List Write → Reply → Type 0
EndsOrStaysBy begin [] reply = reply ≡ Ended begin
EndsOrStaysBy begin (write ∷ writes) reply = ((time : ℕ) × (reply ≡ Committed time)) ⊎ ((time : ℕ) × (reply ≡ Refused (Stale time)))

abbrev pub EndIsAllowed : Option Transaction → CallKind → Reply → Type 0
EndIsAllowed (Some transaction) CommitCall reply = EndsOrStaysBy transaction.begin transaction.writes reply
EndIsAllowed current call reply = Unit {0}

-- Idle, Active, ReadOnly and Spent are answered exactly where the session's state refuses the call for this cause
pub record StateIsToldAtAnyLevel (limits : Limits) (state : SessionState) (call : CallKind) (reply : Reply) : Type 0 where
  pub refusal : state_cause reply ≡ cause_by_state limits state call
  pub end : EndIsAllowed state.current call reply

-- of replies that can answer their calls: the exact rule is the wider one, and no stale commit
abbrev pub LevelOneIsNoStale : Type 0
LevelOneIsNoStale = (limits : Limits) (state : SessionState) (call : CallKind) (reply : Reply) → can_answer call reply ≡ true
    → StateIsTold limits state call reply ↔ (StateIsToldAtAnyLevel limits state call reply × IsNone (stale_time reply))

-- no commit of a run is told stale
abbrev pub TellsNoStale : List Answered → Type 0
TellsNoStale run = AtEachCall (λ before session call reply. IsNone (stale_time reply)) run

-- a report is legal exactly where it follows the wider rules and tells no stale commit
abbrev pub LegalIsNoStale : Type 0
LegalIsNoStale = (limits : Limits) (lines : List Line) (report : Report) (history : List Commit)
    → IsLegal limits lines report history ↔ (FollowsRules StateIsToldAtAnyLevel limits lines report history × TellsNoStale (run_of lines report.replies))
