-- What an answer leaves of the writes of open transactions.
use Rattle.std.proofs.Common.{◌≡◌, ◌≢◌, ◌⊎◌, ℕ, ◌+◌, ◌<◌, ◌≤◌, ◌^◌, Bool, true, false, List, [], ◌∷◌, length, get_or, Option, Some, None, refl, sym, ap, ◌∙◌, subst, arith, inl, inr, true≢false}
use Rattle.lst_layout.specs.declared.limits.Limits.{Limits}
use Rattle.lst_model.specs.declared.acts.Act.{Act}
use Rattle.lst_model.specs.declared.acts.Act.TheVariants.{Put, Set, Del}
use Rattle.lst_model.specs.declared.acts.Write.{Write}
use Rattle.lst_model.specs.declared.lines.Call.{Call}
use Rattle.lst_model.specs.declared.lines.Call.TheVariants as call
use Rattle.lst_model.specs.declared.replies.Reply.{Reply}
use Rattle.lst_model.specs.declared.replies.Reply.TheVariants as reply
use Rattle.lst_model.specs.declared.replies.Cause.TheVariants as cause
use Rattle.lst_replies.specs.Runs.{write_of}
use Rattle.lst_rule.specs.declared.view.View.{View}
use Rattle.lst_rule.specs.Rule.{knows}
use Rattle.lst_session.specs.Calls.{Called, SameWork, Begins, IsAhead, Gets, Accepts, Refuses, Commits, Ends}
use Rattle.lst_session.specs.Lines.{BeginLeaves, AsOfLeaves, GetLeaves, WriteLeaves, CommitLeaves, AbortLeaves}
use Rattle.lst_scan.specs.Lines.{HasScanned, SumLeaves, CountLeaves, ScanLeaves, FindLeaves, EachCallLeaves, CallLooks}
use Rattle.lst_redo.specs.Owns.{own_after}

-- the calling session's own writes, and that the other sessions are as they were
pub record Leaves (v w : View) (s : ℕ) (made : Option Write) (answer : Reply) : Type 0 where
  pub own : (knows w s).is_open ≡ true → (((knows v s).is_open ≡ true) × ((knows w s).own ≡ own_after made answer (knows v s).own)) ⊎ (((knows w s).own ≡ []) × ((own : List Write) → own_after made answer own ≡ []))
  pub others : (t : ℕ) → t ≢ s → knows w t ≡ knows v t

module _ (v w : View) (s : ℕ) where
  looked : (made : Option Write) (answer : Reply) → Called v w s → SameWork s (knows v s) (knows w s) → ((own : List Write) → own_after made answer own ≡ own) → Leaves v w s made answer
  looked made answer called same stays = record {
    own = λ is_open. inl (sym same.transaction.is_open ∙ is_open, same.own ∙ sym (stays (knows v s).own));
    others = called.learns.others;
  }

  still : (made : Option Write) (answer : Reply) → w ≡ v → ((own : List Write) → own_after made answer own ≡ own) → Leaves v w s made answer
  still made answer same stays = record {
    own = λ is_open. inl (ap (λ (u : View). (knows u s).is_open) (sym same) ∙ is_open, ap (λ (u : View). (knows u s).own) same ∙ sym (stays (knows v s).own));
    others = λ t other. ap (λ (u : View). knows u t) same;
  }

  pub over : (made : Option Write) (answer : Reply) → Called v w s → (knows w s).is_open ≡ false → Leaves v w s made answer
  over made answer called shut = record {
    own = λ is_open. absurd (true≢false (sym is_open ∙ shut));
    others = called.learns.others;
  }

  began : (made : Option Write) (answer : Reply) → Called v w s → (knows w s).own ≡ [] → ((own : List Write) → own_after made answer own ≡ []) → Leaves v w s made answer
  began made answer called none goes = record {
    own = λ is_open. inr (none, goes);
    others = called.learns.others;
  }

  begin_leaves : (r : Reply) → BeginLeaves v w s r → Leaves v w s None r
  begin_leaves (reply.Begun b) x = began None (reply.Begun b) x.1.called x.1.own (λ own. refl)
  begin_leaves (reply.Refused cause.Active) x = still None (reply.Refused cause.Active) x.1 (λ own. refl)
  begin_leaves (reply.Refused cause.Spent) x = still None (reply.Refused cause.Spent) x.1 (λ own. refl)
  begin_leaves r x = absurd x

  as_of_leaves : (time : ℕ) (r : Reply) → AsOfLeaves v w s time r → Leaves v w s None r
  as_of_leaves time (reply.Begun b) x = began None (reply.Begun b) x.2.1.called x.2.1.own (λ own. refl)
  as_of_leaves time (reply.Refused cause.Active) x = still None (reply.Refused cause.Active) x.1 (λ own. refl)
  as_of_leaves time (reply.Refused cause.Spent) x = still None (reply.Refused cause.Spent) x.1 (λ own. refl)
  as_of_leaves time (reply.Refused (cause.Future clock)) x = looked None (reply.Refused (cause.Future clock)) x.1.called x.1.same (λ own. refl)
  as_of_leaves time r x = absurd x

  get_leaves : (key : ℕ) (r : Reply) → GetLeaves v w s key r → Leaves v w s None r
  get_leaves key (reply.Row row) x = looked None (reply.Row row) x.1.called x.1.same (λ own. refl)
  get_leaves key reply.Absent x = looked None reply.Absent x.1.called x.1.same (λ own. refl)
  get_leaves key (reply.Refused cause.Idle) x = still None (reply.Refused cause.Idle) x.1 (λ own. refl)
  get_leaves key r x = absurd x

  write_leaves : (key most : ℕ) (act : Act) (r : Reply) → WriteLeaves v w s key most act r → Leaves v w s (Some (record { key = key; act = act })) r
  write_leaves key most act reply.Done x = record {
    own = λ is_open. inl (sym x.transaction.is_open ∙ is_open, x.own);
    others = x.called.learns.others;
  }
  write_leaves key most act (reply.Refused why) x = looked (Some (record { key = key; act = act })) (reply.Refused why) x.2.called x.2.same (λ own. refl)
  write_leaves key most act r x = absurd x

  commit_leaves : (r : Reply) → CommitLeaves v w s r → Leaves v w s None r
  commit_leaves (reply.Committed time) x = over None (reply.Committed time) x.1.called x.1.ended.is_open
  commit_leaves (reply.Ended time) x = over None (reply.Ended time) x.3.called x.3.ended.is_open
  commit_leaves (reply.Refused cause.Idle) x = still None (reply.Refused cause.Idle) x.1 (λ own. refl)
  commit_leaves r x = absurd x

  abort_leaves : (r : Reply) → AbortLeaves v w s r → Leaves v w s None r
  abort_leaves reply.Aborted x = over None reply.Aborted x.1.called x.1.ended.is_open
  abort_leaves (reply.Refused cause.Idle) x = still None (reply.Refused cause.Idle) x.1 (λ own. refl)
  abort_leaves r x = absurd x

  sum_leaves : (column : ℕ) (r : Reply) → SumLeaves v w s column r → Leaves v w s None r
  sum_leaves column (reply.Sum total) x = looked None (reply.Sum total) x.0.looks.called x.0.looks.same (λ own. refl)
  sum_leaves column (reply.Refused cause.Idle) x = still None (reply.Refused cause.Idle) x.1 (λ own. refl)
  sum_leaves column r x = absurd x

  count_leaves : (r : Reply) → CountLeaves v w s r → Leaves v w s None r
  count_leaves (reply.Count rows) x = looked None (reply.Count rows) x.0.looks.called x.0.looks.same (λ own. refl)
  count_leaves (reply.Refused cause.Idle) x = still None (reply.Refused cause.Idle) x.1 (λ own. refl)
  count_leaves r x = absurd x

  scan_leaves : (r : Reply) → ScanLeaves v w s r → Leaves v w s None r
  scan_leaves (reply.Rows list) x = looked None (reply.Rows list) x.0.looks.called x.0.looks.same (λ own. refl)
  scan_leaves (reply.Refused cause.Idle) x = still None (reply.Refused cause.Idle) x.1 (λ own. refl)
  scan_leaves r x = absurd x

  find_leaves : (column number : ℕ) (r : Reply) → FindLeaves v w s column number r → Leaves v w s None r
  find_leaves column number (reply.Keys list) x = looked None (reply.Keys list) x.1.looks.called x.1.looks.same (λ own. refl)
  find_leaves column number (reply.Refused cause.Idle) x = still None (reply.Refused cause.Idle) x.1 (λ own. refl)
  find_leaves column number (reply.Refused cause.NotIndexed) x = still None (reply.Refused cause.NotIndexed) x.2 (λ own. refl)
  find_leaves column number r x = absurd x

  pub call_leaves : (c : Call) (r : Reply) → EachCallLeaves v w s c r → Leaves v w s (write_of c) r
  call_leaves call.Begin r x = begin_leaves r x
  call_leaves (call.AsOf time) r x = as_of_leaves time r x
  call_leaves (call.Get key) r x = get_leaves key r x.0
  call_leaves (call.Insert key row) r x = write_leaves key 1 (Put row) r x
  call_leaves (call.Update key patch) r x = write_leaves key 0 (Set patch) r x
  call_leaves (call.Delete key) r x = write_leaves key 0 Del r x
  call_leaves (call.Sum column) r x = sum_leaves column r x.0
  call_leaves call.Count r x = count_leaves r x.0
  call_leaves call.Scan r x = scan_leaves r x
  call_leaves (call.Find column number) r x = find_leaves column number r x
  call_leaves call.Commit r x = commit_leaves r x
  call_leaves call.Abort r x = abort_leaves r x
