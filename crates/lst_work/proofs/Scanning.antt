-- Lines that scan.
use Rattle.std.proofs.Common.{◌≡◌, ℕ, ◌≤◌, List, true, false, not, Some, IfSome, length, refl, sym, subst, ap, ◌∙◌, inl}
use Rattle.lst_model.specs.Cells.{Cell}
use Rattle.lst_model.specs.declared.commits.Commit.{Commit}
use Rattle.lst_model.specs.declared.lines.Call.{Call}
use Rattle.lst_model.specs.declared.lines.Call.TheVariants.{Sum, Count, Scan, Find}
use Rattle.lst_model.specs.declared.replies.Reply.{Reply}
use Rattle.lst_model.specs.declared.replies.Reply.TheVariants.{Sum as SumReply, Count as CountReply, Rows as RowsReply, Keys, Refused}
use Rattle.lst_model.specs.declared.replies.Cause.TheVariants.{NotIndexed}
use Rattle.lst_model.specs.Tables.{Rows, sum_of, count_of, scan_of, find_of}
use Rattle.lst_model.specs.Histories.{Extends, snapshot}
use Rattle.lst_core_state.specs.State.{mine}
use Rattle.lst_machine.specs.Calls.{is_indexed}
use Rattle.lst_rule.specs.declared.view.View.{View}
use Rattle.lst_rule.specs.Rule.{knows}
use Rattle.lst_replies.specs.declared.states.SessionState.{SessionState}
use Rattle.lst_replies.specs.Runs.{write_of, key_of}
use Rattle.lst_replies.specs.States.{after_call, time_told}
use Rattle.lst_replies.specs.ReplyKinds.{can_answer}
use Rattle.lst_scan.specs.Scans.{table_seen}
use Rattle.lst_scan.specs.Lines.{HasScanned}
use Rattle.lst_work_laws.specs.Lines.{transaction_told, session_told, Tells, LeavesCommits, LeavesWrites, LeavesPins, IsFound, AfterLine}
use Rattle.lst_work_laws.proofs.Telling.{opened_told, same_told, extends_on, snapshot_later}
use Rattle.lst_work.proofs.Refusing.{kept_drawn, at_once}

module _ (v w : View) (s : ℕ) where
  -- the state of a session with an open transaction
  abbrev opened : SessionState
  opened = record { begun = (knows v s).number; current = Some (transaction_told (knows v s)) }

  module _ (x : HasScanned v w s) where
    -- the session has only looked, and the reply tells what is so
    scanned : (call : Call) (reply : Reply) → can_answer call reply ≡ true
        → ((floor : ℕ) (history : List Commit) → Extends history (knows w s).seen → Tells v.limits history floor opened call reply)
        → IfSome (time_told reply) (λ time. time ≤ length (knows w s).seen)
        → after_call call reply (session_told (knows v s)) ≡ session_told (knows v s)
        → (mine s (knows w s) ≡ mine s (knows v s) → LeavesCommits v w s reply)
        → ((knows w s).done ≡ (knows v s).done → LeavesWrites v w s (write_of call) reply)
        → ((knows w s).pages.pins ≡ (knows v s).pages.pins → LeavesPins v w s reply)
        → IfSome (key_of (write_of call)) (λ key. IsFound v w s key reply)
        → AfterLine s call reply v w
    scanned call reply kind tells told state commits writes pins found = record {
      called = x.looks.called;
      kind = kind;
      tells = λ floor history low e. subst (λ (st : SessionState). Tells v.limits history floor st call reply) (sym (opened_told (knows v s) x.opened)) (tells floor history e);
      told = told;
      state = same_told s (knows v s) (knows w s) x.looks.same ∙ sym state;
      commits = commits x.looks.same.mine;
      writes = writes x.looks.lists.done;
      drawn = kept_drawn v w s x.looks.lists call reply;
      latched = inl x.looks.lists.latched;
      pins = pins x.looks.pins.pins;
      found = found;
    }

    module _ (early : (knows v s).begin ≤ length (knows v s).seen) where
      -- what the transaction sees is the same under each history that goes on
      table_is : (history : List Commit) → Extends history (knows w s).seen → snapshot history (knows v s).begin (knows v s).own ≡ table_seen (knows v s)
      table_is history e = snapshot_later history (knows v s).seen (knows v s).begin (knows v s).own early (extends_on (knows v s).seen (knows w s).seen history x.looks.called.seen e)

      pub summed : (column total : ℕ) → total ≡ sum_of (table_seen (knows v s)) column → AfterLine s (Sum column) (SumReply total) v w
      summed column total is = scanned (Sum column) (SumReply total) refl
          (λ floor history e. record {
            times = tt;
            reads = record { sight = is ∙ sym (ap (λ (rows : Rows). sum_of rows column) (table_is history e)); index = refl };
            refusals = record { refusal = refl; end = tt };
            writes = tt;
          })
          tt refl (λ e. e) (λ e. e) (λ e. e) tt

      pub counted : (rows : ℕ) → rows ≡ count_of (table_seen (knows v s)) → AfterLine s Count (CountReply rows) v w
      counted rows is = scanned Count (CountReply rows) refl
          (λ floor history e. record {
            times = tt;
            reads = record { sight = is ∙ sym (ap count_of (table_is history e)); index = refl };
            refusals = record { refusal = refl; end = tt };
            writes = tt;
          })
          tt refl (λ e. e) (λ e. e) (λ e. e) tt

      pub listed : (list : List (ℕ × List Cell)) → list ≡ scan_of (table_seen (knows v s)) → AfterLine s Scan (RowsReply list) v w
      listed list is = scanned Scan (RowsReply list) refl
          (λ floor history e. record {
            times = tt;
            reads = record { sight = is ∙ sym (ap scan_of (table_is history e)); index = refl };
            refusals = record { refusal = refl; end = tt };
            writes = tt;
          })
          tt refl (λ e. e) (λ e. e) (λ e. e) tt

      pub found : (column number : ℕ) (list : List ℕ) → is_indexed v.limits column ≡ true → list ≡ find_of (table_seen (knows v s)) column number → AfterLine s (Find column number) (Keys list) v w
      found column number list indexed is = scanned (Find column number) (Keys list) refl
          (λ floor history e. record {
            times = tt;
            reads = record { sight = is ∙ sym (ap (λ (rows : Rows). find_of rows column number) (table_is history e)); index = sym (ap not indexed) };
            refusals = record { refusal = refl; end = tt };
            writes = tt;
          })
          tt refl (λ e. e) (λ e. e) (λ e. e) tt

  -- a find on a column without an index
  pub not_indexed : (column number : ℕ) → is_indexed v.limits column ≡ false → (knows v s).is_open ≡ true → w ≡ v → AfterLine s (Find column number) (Refused NotIndexed) v w
  not_indexed column number without on still = at_once v w s still (Find column number) NotIndexed refl tt
      (λ floor history. subst (λ (st : SessionState). Tells v.limits history floor st (Find column number) (Refused NotIndexed)) (sym (opened_told (knows v s) on)) record {
        times = tt;
        reads = record { sight = tt; index = sym (ap not without) };
        refusals = record { refusal = refl; end = tt };
        writes = tt;
      })
      (λ key. tt)
