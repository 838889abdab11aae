-- A call of a script that a session answers at a seat of its own: how what it knows before the call, the call, the reply, and what it knows after it
-- stand to each other.
use Rattle.std.specs.Prelude.{◌≡◌, ℕ, ◌≤◌, true, length}
use Rattle.lst_model.specs.declared.lines.Call.{Call}
use Rattle.lst_model.specs.declared.lines.Call.TheVariants as call
use Rattle.lst_model.specs.declared.replies.Reply.{Reply}
use Rattle.lst_model.specs.declared.replies.Reply.TheVariants.{Committed, Ended, Refused}
use Rattle.lst_model.specs.declared.replies.Cause.TheVariants as cause
use Rattle.lst_machine.specs.Calls.{is_indexed}
use Rattle.lst_rule.specs.declared.view.View.{View}
use Rattle.lst_rule.specs.Rule.{knows}
use Rattle.lst_session.specs.declared.kinds.Outcome.TheVariants as outcome
use Rattle.lst_session.specs.Calls.{Called}
use Rattle.lst_session.specs.Waits.{ConcludesAtLast}
use Rattle.lst_session.specs.Lines.{IsOpen, IsClosed, SessionLeaves}
use Rattle.lst_scan.specs.Lines.{HasScanned, SumLeaves, CountLeaves, ScanLeaves, FindLeaves}

-- a commit, by the reply: it tries till the commit word isn't held
abbrev pub EndLeaves : View → View → ℕ → Reply → Type 0
EndLeaves v w s (Committed time) = IsOpen v s × ConcludesAtLast v w s (outcome.Committed time)
EndLeaves v w s (Ended time) = IsOpen v s × ConcludesAtLast v w s (outcome.Ended time)
EndLeaves v w s (Refused cause.Idle) = IsClosed v s × (w ≡ v)
EndLeaves v w s answer = ⊥

-- by the call: a scan, a commit, or any other. Each is refused as idle exactly where no transaction is open, but a begin, which isn't
abbrev pub AnswerLeaves : View → View → ℕ → Call → Reply → Type 0
AnswerLeaves v w s (call.Sum column) answer = SumLeaves v w s column answer
AnswerLeaves v w s call.Count answer = CountLeaves v w s answer
AnswerLeaves v w s call.Scan answer = ScanLeaves v w s answer
AnswerLeaves v w s (call.Find column number) answer = FindLeaves v w s column number answer
AnswerLeaves v w s call.Commit answer = EndLeaves v w s answer
AnswerLeaves v w s call answer = SessionLeaves v w s call answer

-- the session s, of which v was known before the call and w is after it, has answered it. Nobody else learnt anything. The session has
-- begun at most as many transactions as it may. The open one began at a time that the session had seen, so it sees the same under each
-- history that goes on from there
pub record AfterCall (v w : View) (s : ℕ) (call : Call) (answer : Reply) : Type 0 where
  pub called : Called v w s
  pub few : (knows v s).number ≤ v.limits.txns
  pub early : IsOpen v s → (knows v s).begin ≤ length (knows v s).seen
  pub leaves : AnswerLeaves v w s call answer

-- for want of memory: only a list and a find in an indexed column take any, with a transaction open, and then the session has only looked
abbrev pub LooksInVain : View → View → ℕ → Call → Type 0
LooksInVain v w s call.Scan = HasScanned v w s
LooksInVain v w s (call.Find column number) = (is_indexed v.limits column ≡ true) × HasScanned v w s
LooksInVain v w s call = ⊥
