-- Lines that read, and lines that end a transaction.
use Rattle.std.proofs.Common.{◌≡◌, ℕ, ◌<◌, ◌≤◌, List, [], ◌∷◌, true, cond, length, Option, Some, None, refl, sym, subst, ap, ◌∙◌, arith, inl, inr, length-append}
use Rattle.lst_model.specs.declared.acts.Write.{Write}
use Rattle.lst_model.specs.declared.commits.Commit.{Commit}
use Rattle.lst_model.specs.declared.lines.Call.TheVariants.{Get, Commit as CommitCall, Abort}
use Rattle.lst_model.specs.declared.replies.Reply.TheVariants.{Row, Absent, Committed as CommittedReply, Ended as EndedReply, Aborted, Refused}
use Rattle.lst_model.specs.declared.replies.Cause.TheVariants as cause
use Rattle.lst_model.specs.Cells.{Cell}
use Rattle.lst_model.specs.Tables.{Rows, row_of}
use Rattle.lst_model.specs.Histories.{Extends, snapshot}
use Rattle.lst_core_state.specs.Writes.{commit}
use Rattle.lst_machine.specs.Calls.{row_reply}
use Rattle.lst_rule.specs.declared.view.View.{View}
use Rattle.lst_rule.specs.Rule.{knows}
use Rattle.lst_session.specs.Calls.{Gets, OnlyLooks, Commits, Ends}
use Rattle.lst_replies.specs.declared.states.SessionState.{SessionState}
use Rattle.lst_replies.specs.Levels.{EndsOrStaysBy}
use Rattle.lst_work_laws.specs.Lines.{transaction_told, session_told, Tells, AfterLine}
use Rattle.lst_work_laws.proofs.Telling.{opened_told, same_told, extends_on, later_length, snapshot_later, at_place}
use Rattle.lst_work.proofs.Refusing.{kept_drawn}

module _ (v w : View) (s : ℕ) where
  -- ---- reads

  module _ (key : ℕ) (row : Option (List Cell)) (on : (knows v s).is_open ≡ true) (early : (knows v s).begin ≤ length (knows v s).seen) (x : Gets v w s key row) where
    -- the row is that of the transaction, under each history that goes on
    row_is : (history : List Commit) → Extends history (knows w s).seen → row_of (snapshot history (knows v s).begin (knows v s).own) key ≡ row
    row_is history e =
        ap (λ (rows : Rows). row_of rows key) (snapshot_later history (knows v s).seen (knows v s).begin (knows v s).own early (extends_on (knows v s).seen (knows w s).seen history x.called.seen e)
        ∙ sym (snapshot_later (knows w s).seen (knows v s).seen (knows v s).begin (knows v s).own early x.called.seen)
        ∙ sym (λ i. snapshot (knows w s).seen (x.same.transaction.begin i) (x.same.own i)))
        ∙ sym x.is

    pub got : AfterLine s (Get key) (row_reply row) v w
    got = by_row row row_is
      where
        by_row : (r : Option (List Cell)) → ((history : List Commit) → Extends history (knows w s).seen → row_of (snapshot history (knows v s).begin (knows v s).own) key ≡ r) → AfterLine s (Get key) (row_reply r) v w
        by_row None is = record {
          called = x.called;
          kind = refl;
          tells = λ floor history low e. subst (λ (st : SessionState). Tells v.limits history floor st (Get key) Absent) (sym (opened_told (knows v s) on)) record {
            times = tt;
            reads = record { sight = is history e; index = refl };
            refusals = record { refusal = refl; end = tt };
            writes = tt;
          };
          told = tt;
          state = same_told s (knows v s) (knows w s) x.same;
          commits = x.same.mine;
          writes = x.lists.done;
          drawn = kept_drawn v w s x.lists (Get key) Absent;
          latched = inl x.lists.latched;
          pins = x.pins.pins;
          found = tt;
        }
        by_row (Some cells) is = record {
          called = x.called;
          kind = refl;
          tells = λ floor history low e. subst (λ (st : SessionState). Tells v.limits history floor st (Get key) (Row cells)) (sym (opened_told (knows v s) on)) record {
            times = tt;
            reads = record { sight = is history e; index = refl };
            refusals = record { refusal = refl; end = tt };
            writes = tt;
          };
          told = tt;
          state = same_told s (knows v s) (knows w s) x.same;
          commits = x.same.mine;
          writes = x.lists.done;
          drawn = kept_drawn v w s x.lists (Get key) (Row cells);
          latched = inl x.lists.latched;
          pins = x.pins.pins;
          found = tt;
        }

  -- ---- ends

  ended_state : Ends v w s → session_told (knows w s) ≡ record { begun = (knows v s).number; current = None }
  ended_state x = λ i. record { begun = x.ended.number i; current = cond (x.ended.is_open i) (Some (transaction_told (knows w s))) None }

  pub aborted : (knows v s).is_open ≡ true → Ends v w s → AfterLine s Abort Aborted v w
  aborted on x = record {
    called = x.called;
    kind = refl;
    tells = λ floor history low e. subst (λ (st : SessionState). Tells v.limits history floor st Abort Aborted) (sym (opened_told (knows v s) on)) record {
      times = tt;
      reads = record { sight = tt; index = refl };
      refusals = record { refusal = refl; end = tt };
      writes = tt;
    };
    told = tt;
    state = ended_state x;
    commits = x.mine;
    writes = x.lists.done;
    drawn = kept_drawn v w s x.lists Abort Aborted;
    latched = inl x.lists.latched;
    pins = x.unpinned.pins;
    found = tt;
  }

  ended_by : (begin : ℕ) (own : List Write) → own ≡ [] → EndsOrStaysBy begin own (EndedReply begin)
  ended_by begin own none = subst (λ (ws : List Write). EndsOrStaysBy begin ws (EndedReply begin)) (sym none) refl

  committed_by : (begin time : ℕ) (own : List Write) → 0 < length own → EndsOrStaysBy begin own (CommittedReply time)
  committed_by begin time [] some = absurd (omega arith)
  committed_by begin time (write ∷ writes) some = inl (time, refl)

  stale_by : (begin time : ℕ) (own : List Write) → 0 < length own → EndsOrStaysBy begin own (Refused (cause.Stale time))
  stale_by begin time [] some = absurd (omega arith)
  stale_by begin time (write ∷ writes) some = inr (time, refl)

  module _ (on : (knows v s).is_open ≡ true) where
    pub ended : (knows v s).begin ≤ length (knows v s).seen → (knows v s).own ≡ [] → Ends v w s → AfterLine s CommitCall (EndedReply (knows v s).begin) v w
    ended early none x = record {
      called = x.called;
      kind = refl;
      tells = λ floor history low e. subst (λ (st : SessionState). Tells v.limits history floor st CommitCall (EndedReply (knows v s).begin)) (sym (opened_told (knows v s) on)) record {
        times = tt;
        reads = record { sight = tt; index = refl };
        refusals = record { refusal = refl; end = ended_by (knows v s).begin (knows v s).own none };
        writes = tt;
      };
      told = (let h = later_length (knows w s).seen (knows v s).seen x.called.seen in omega arith);
      state = ended_state x;
      commits = x.mine;
      writes = x.lists.done;
      drawn = kept_drawn v w s x.lists CommitCall (EndedReply (knows v s).begin);
      latched = inl x.lists.latched;
      pins = x.unpinned.pins;
      found = tt;
    }

    pub committed : (time : ℕ) → Commits v w s time → AfterLine s CommitCall (CommittedReply time) v w
    committed time x = record {
      called = x.called;
      kind = refl;
      tells = λ floor history low e. subst (λ (st : SessionState). Tells v.limits history floor st CommitCall (CommittedReply time)) (sym (opened_told (knows v s) on)) record {
        times = (let above = x.above in omega arith);
        reads = record { sight = tt; index = refl };
        refusals = record { refusal = refl; end = committed_by (knows v s).begin time (knows v s).own x.wrote };
        writes = tt;
      };
      told = commit_low;
      state = λ i. record { begun = x.ended.number i; current = cond (x.ended.is_open i) (Some (transaction_told (knows w s))) None };
      commits = record { was = on; at = at_place (knows w s).seen x.before _ [] time x.seen x.place; mine = x.mine };
      writes = x.lists.done;
      drawn = kept_drawn v w s x.lists CommitCall (CommittedReply time);
      latched = inl x.lists.latched;
      pins = x.unpinned.pins;
      found = tt;
    }
      where
        commit_low : time ≤ length (knows w s).seen
        commit_low = let h = ap length x.seen in let p = x.place in omega (arith, length-append x.before (commit s (knows v s).number (knows v s).begin (knows v s).own ∷ []))

    pub stale : (time : ℕ) → OnlyLooks v w s → 0 < length (knows v s).own → AfterLine s CommitCall (Refused (cause.Stale time)) v w
    stale time x wrote = record {
      called = x.called;
      kind = refl;
      tells = λ floor history low e. subst (λ (st : SessionState). Tells v.limits history floor st CommitCall (Refused (cause.Stale time))) (sym (opened_told (knows v s) on)) record {
        times = tt;
        reads = record { sight = tt; index = refl };
        refusals = record { refusal = refl; end = stale_by (knows v s).begin time (knows v s).own wrote };
        writes = tt;
      };
      told = tt;
      state = same_told s (knows v s) (knows w s) x.same;
      commits = x.same.mine;
      writes = x.lists.done;
      drawn = kept_drawn v w s x.lists CommitCall (Refused (cause.Stale time));
      latched = inl x.lists.latched;
      pins = x.pins.pins;
      found = tt;
    }
