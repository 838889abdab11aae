-- From what a call leaves of its session to what its line tells.
use Rattle.std.proofs.Common.{◌≡◌, ℕ, ◌<◌, ◌≤◌, true, false, cond, Some, None, Result, Ok, Err, IfOk, length, refl, sym, subst, arith}
use Rattle.lst_model.specs.declared.memory.OutOfMemory.{OutOfMemory}
use Rattle.lst_model.specs.declared.acts.Act.{Act}
use Rattle.lst_model.specs.declared.acts.Act.TheVariants.{Put, Set, Del}
use Rattle.lst_model.specs.declared.lines.Call.{Call}
use Rattle.lst_model.specs.declared.lines.Call.TheVariants.{Begin, AsOf, Get, Insert, Update, Delete, Sum, Count, Scan, Find, Commit as CommitCall, Abort}
use Rattle.lst_model.specs.declared.replies.Reply.{Reply}
use Rattle.lst_model.specs.declared.replies.Reply.TheVariants.{Begun, Done, Row, Absent, Committed, Ended, Aborted, Sum as SumReply, Count as CountReply, Rows, Keys, Refused}
use Rattle.lst_model.specs.declared.replies.Cause.{Cause}
use Rattle.lst_model.specs.declared.replies.Cause.TheVariants as cause
use Rattle.std.specs.Prelude.{IsNone}
use Rattle.lst_replies.specs.Levels.{stale_time}
use Rattle.lst_rule.specs.declared.view.View.{View}
use Rattle.lst_rule.specs.Rule.{knows}
use Rattle.lst_session.specs.Traces.{is_put}
use Rattle.lst_session.specs.Lines.{CanBegin, BeginLeaves, AsOfLeaves, GetLeaves, WriteLeaves, AbortLeaves}
use Rattle.lst_scan.specs.Lines.{SumLeaves, CountLeaves, ScanLeaves, FindLeaves}
use Rattle.lst_work_laws.specs.Lines.{AfterLine}
use Rattle.lst_scan.specs.Sessions.{EndLeaves, AfterCall}
use Rattle.lst_work.proofs.EndLines.{stale_none}
use Rattle.lst_work.proofs.Refusing.{idle_line, active_line, spent_line}
use Rattle.lst_work.proofs.Beginning.{begun_now, begun_then, ahead}
use Rattle.lst_work.proofs.Reading.{got, aborted, ended, committed}
use Rattle.lst_work.proofs.Writing.{call_of, accepted, refused_line}
use Rattle.lst_work.proofs.Scanning.{summed, counted, listed, found, not_indexed}

module _ (v w : View) (s : ℕ) where
  -- ---- begins

  module _ (few : (knows v s).number ≤ v.limits.txns) where
    one_left : CanBegin v s → (knows v s).number < v.limits.txns
    one_left x = let more : ¬ ((knows v s).number ≡ v.limits.txns) = x.1 in omega arith

    begin_told : (reply : Reply) → BeginLeaves v w s reply → AfterLine s Begin reply v w
    begin_told (Begun b) x = begun_now v w s x.0.0 (one_left x.0) b x.1
    begin_told (Refused c) x = by_cause c x
      where
        by_cause : (c : Cause) → BeginLeaves v w s (Refused c) → AfterLine s Begin (Refused c) v w
        by_cause cause.Active x = (active_line v w s x.1 x.0).0
        by_cause cause.Spent x = (spent_line v w s x.1 x.0.0 x.0.1).0
        by_cause c x = absurd x
    begin_told reply x = absurd x

    as_of_told : (time : ℕ) (reply : Reply) → AsOfLeaves v w s time reply → AfterLine s (AsOf time) reply v w
    as_of_told time (Begun b) x = subst (λ (t : ℕ). AfterLine s (AsOf time) (Begun t) v w) (sym x.1) (begun_then v w s x.0.0 (one_left x.0) x.2.0 time x.2.1)
    as_of_told time (Refused c) x = by_cause c x
      where
        by_cause : (c : Cause) → AsOfLeaves v w s time (Refused c) → AfterLine s (AsOf time) (Refused c) v w
        by_cause cause.Active x = (active_line v w s x.1 x.0).1 time
        by_cause cause.Spent x = (spent_line v w s x.1 x.0.0 x.0.1).1 time
        by_cause (cause.Future clock) x = ahead v w s x.0.0 (one_left x.0) clock time x.1
        by_cause c x = absurd x
    as_of_told time reply x = absurd x

  module _ (early : (knows v s).is_open ≡ true → (knows v s).begin ≤ length (knows v s).seen) where
    -- ---- reads and writes of a key

    get_told : (key : ℕ) (reply : Reply) → GetLeaves v w s key reply → AfterLine s (Get key) reply v w
    get_told key (Row row) x = got v w s key (Some row) x.0 (early x.0) x.1
    get_told key Absent x = got v w s key None x.0 (early x.0) x.1
    get_told key (Refused c) x = by_cause c x
      where
        by_cause : (c : Cause) → GetLeaves v w s key (Refused c) → AfterLine s (Get key) (Refused c) v w
        by_cause cause.Idle x = idle_line v w s x.1 (Get key) refl x.0
        by_cause c x = absurd x
    get_told key reply x = absurd x

    write_told : (key : ℕ) (act : Act) (reply : Reply) → WriteLeaves v w s key (cond (is_put act) 1 0) act reply → AfterLine s (call_of key act) reply v w
    write_told key act Done x = accepted v w s key act (early x.may.0) x
    write_told key act (Refused why) x = subst (λ (c : Cause). AfterLine s (call_of key act) (Refused c) v w) (sym x.1) (refused_line v w s key act x.0 early x.2 x.3)
    write_told key act reply x = absurd x

    -- ---- ends

    end_told : (reply : Reply) → EndLeaves v w s reply → AfterLine s CommitCall reply v w
    end_told (Committed time) x = committed v w s x.0 time x.1.concludes
    end_told (Ended time) x = let c = x.1.concludes in subst (λ (t : ℕ). AfterLine s CommitCall (Ended t) v w) (sym c.0) (ended v w s x.0 (early x.0) c.1 c.2)
    end_told (Refused c) x = by_cause c x
      where
        by_cause : (c : Cause) → EndLeaves v w s (Refused c) → AfterLine s CommitCall (Refused c) v w
        by_cause cause.Idle x = idle_line v w s x.1 CommitCall refl x.0
        by_cause c x = absurd x
    end_told reply x = absurd x

    abort_told : (reply : Reply) → AbortLeaves v w s reply → AfterLine s Abort reply v w
    abort_told Aborted x = aborted v w s x.0 x.1
    abort_told (Refused c) x = by_cause c x
      where
        by_cause : (c : Cause) → AbortLeaves v w s (Refused c) → AfterLine s Abort (Refused c) v w
        by_cause cause.Idle x = idle_line v w s x.1 Abort refl x.0
        by_cause c x = absurd x
    abort_told reply x = absurd x

    -- ---- scans

    sum_told : (column : ℕ) (reply : Reply) → SumLeaves v w s column reply → AfterLine s (Sum column) reply v w
    sum_told column (SumReply total) x = summed v w s x.0 (early x.0.opened) column total x.1
    sum_told column (Refused c) x = by_cause c x
      where
        by_cause : (c : Cause) → SumLeaves v w s column (Refused c) → AfterLine s (Sum column) (Refused c) v w
        by_cause cause.Idle x = idle_line v w s x.1 (Sum column) refl x.0
        by_cause c x = absurd x
    sum_told column reply x = absurd x

    count_told : (reply : Reply) → CountLeaves v w s reply → AfterLine s Count reply v w
    count_told (CountReply rows) x = counted v w s x.0 (early x.0.opened) rows x.1
    count_told (Refused c) x = by_cause c x
      where
        by_cause : (c : Cause) → CountLeaves v w s (Refused c) → AfterLine s Count (Refused c) v w
        by_cause cause.Idle x = idle_line v w s x.1 Count refl x.0
        by_cause c x = absurd x
    count_told reply x = absurd x

    scan_told : (reply : Reply) → ScanLeaves v w s reply → AfterLine s Scan reply v w
    scan_told (Rows list) x = listed v w s x.0 (early x.0.opened) list x.1
    scan_told (Refused c) x = by_cause c x
      where
        by_cause : (c : Cause) → ScanLeaves v w s (Refused c) → AfterLine s Scan (Refused c) v w
        by_cause cause.Idle x = idle_line v w s x.1 Scan refl x.0
        by_cause c x = absurd x
    scan_told reply x = absurd x

    find_told : (column number : ℕ) (reply : Reply) → FindLeaves v w s column number reply → AfterLine s (Find column number) reply v w
    find_told column number (Keys list) x = found v w s x.1 (early x.1.opened) column number list x.0 x.2
    find_told column number (Refused c) x = by_cause c x
      where
        by_cause : (c : Cause) → FindLeaves v w s column number (Refused c) → AfterLine s (Find column number) (Refused c) v w
        by_cause cause.Idle x = idle_line v w s x.1 (Find column number) refl x.0
        by_cause cause.NotIndexed x = not_indexed v w s column number x.0 x.1 x.2
        by_cause c x = absurd x
    find_told column number reply x = absurd x

  -- ---- any call

  after_line : (call : Call) (reply : Reply) → AfterCall v w s call reply → AfterLine s call reply v w
  after_line Begin reply x = begin_told x.few reply x.leaves
  after_line (AsOf time) reply x = as_of_told x.few time reply x.leaves
  after_line (Get key) reply x = get_told x.early key reply x.leaves
  after_line (Insert key row) reply x = write_told x.early key (Put row) reply x.leaves
  after_line (Update key patch) reply x = write_told x.early key (Set patch) reply x.leaves
  after_line (Delete key) reply x = write_told x.early key Del reply x.leaves
  after_line (Sum column) reply x = sum_told x.early column reply x.leaves
  after_line Count reply x = count_told x.early reply x.leaves
  after_line Scan reply x = scan_told x.early reply x.leaves
  after_line (Find column number) reply x = find_told x.early column number reply x.leaves
  after_line CommitCall reply x = end_told x.early reply x.leaves
  after_line Abort reply x = abort_told x.early reply x.leaves

  pub after_result : (call : Call) (result : Result Reply OutOfMemory) → IfOk result (λ reply. AfterCall v w s call reply) → IfOk result (λ reply. AfterLine s call reply v w)
  after_result call (Ok reply) x = after_line call reply x
  after_result call (Err none) x = tt

  -- under snapshot isolation no commit is told stale
  end_exact : (reply : Reply) → EndLeaves v w s reply → IsNone (stale_time reply)
  end_exact (Committed time) x = refl
  end_exact (Ended time) x = refl
  end_exact (Refused c) x = by_cause c x
    where
      by_cause : (c : Cause) → EndLeaves v w s (Refused c) → IsNone (stale_time (Refused c))
      by_cause cause.Idle x = refl
      by_cause c x = absurd x
  end_exact reply x = absurd x

  never_stale : (call : Call) (reply : Reply) → AfterCall v w s call reply → IsNone (stale_time reply)
  never_stale CommitCall reply x = end_exact reply x.leaves
  never_stale Begin reply x = stale_none Begin reply refl (after_line Begin reply x).kind
  never_stale (AsOf time) reply x = stale_none (AsOf time) reply refl (after_line (AsOf time) reply x).kind
  never_stale (Get key) reply x = stale_none (Get key) reply refl (after_line (Get key) reply x).kind
  never_stale (Insert key row) reply x = stale_none (Insert key row) reply refl (after_line (Insert key row) reply x).kind
  never_stale (Update key patch) reply x = stale_none (Update key patch) reply refl (after_line (Update key patch) reply x).kind
  never_stale (Delete key) reply x = stale_none (Delete key) reply refl (after_line (Delete key) reply x).kind
  never_stale (Sum column) reply x = stale_none (Sum column) reply refl (after_line (Sum column) reply x).kind
  never_stale Count reply x = stale_none Count reply refl (after_line Count reply x).kind
  never_stale Scan reply x = stale_none Scan reply refl (after_line Scan reply x).kind
  never_stale (Find column number) reply x = stale_none (Find column number) reply refl (after_line (Find column number) reply x).kind
  never_stale Abort reply x = stale_none Abort reply refl (after_line Abort reply x).kind

  pub stale_result : (call : Call) (result : Result Reply OutOfMemory) → IfOk result (λ reply. AfterCall v w s call reply) → IfOk result (λ reply. IsNone (stale_time reply))
  stale_result call (Ok reply) x = never_stale call reply x
  stale_result call (Err none) x = tt
