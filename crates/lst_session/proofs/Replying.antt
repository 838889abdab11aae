-- What the reply to a call tells of what the call left.
use Rattle.std.proofs.Common.{◌≡◌, ◌≢◌, ◌⊎◌, ℕ, [], Bool, true, false, Result, Ok, Err, IfOk, IfErr, OnOk, OnErr, refl, sym, inl, inr, true≢false}
use Rattle.std.specs.Prelude.{◌↔◌, IsErr}
use Rattle.lst_model.specs.declared.acts.Act.{Act}
use Rattle.lst_rule.specs.declared.view.View.{View}
use Rattle.lst_rule.specs.Rule.{knows}
use Rattle.lst_txn.specs.declared.begins.BeginFault.{BeginFault}
use Rattle.lst_txn.specs.declared.begins.BeginFault.TheVariants as begins
use Rattle.lst_txn.specs.declared.ends.Idle.{Idle}
use Rattle.lst_session.specs.declared.kinds.WriteRefusal.{WriteRefusal}
use Rattle.lst_session.specs.declared.kinds.Outcome.{Outcome}
use Rattle.lst_session.specs.declared.kinds.Outcome.TheVariants.{Committed, Ended}
use Rattle.lst_session.specs.Calls.{Begins, IsAhead, Accepts, Refuses, Cause, Commits, Ends}
use Rattle.lst_session.specs.Lines.{BeginLeaves, AsOfLeaves, WriteLeaves, CommitLeaves}
use Rattle.lst_session.specs.Replies.{begin_reply, write_reply, commit_reply}
use Rattle.lst_session.proofs.Ending.{not_true}

not_false : (b : Bool) → ¬ (b ≡ false) → b ≡ true
not_false true ne = refl
not_false false ne = absurd (ne refl)

module _ (v w : View) (s : ℕ) where
  pub begin_leaves : (result : Result ℕ BeginFault) → IfOk result (λ b. Begins v w s b b false) → ((result ≡ Err begins.Active) ↔ ((knows v s).is_open ≡ true))
      → ((result ≡ Err begins.Spent) ↔ (((knows v s).is_open ≡ false) × ((knows v s).number ≡ v.limits.txns))) → ((clock : ℕ) → ¬ (result ≡ Err (begins.Future clock))) → OnErr result (w ≡ v) → BeginLeaves v w s (begin_reply result)
  begin_leaves (Ok b) ok is_active is_spent never same = ((closed, more), ok)
    where
      closed : (knows v s).is_open ≡ false
      closed = not_true (knows v s).is_open (λ e. let f = is_active.1 e in absurd (cc))

      more : (knows v s).number ≢ v.limits.txns
      more e = let f = is_spent.1 (closed, e) in absurd (cc)
  begin_leaves (Err begins.Active) ok is_active is_spent never same = (is_active.0 refl, same)
  begin_leaves (Err begins.Spent) ok is_active is_spent never same = (is_spent.0 refl, same)
  begin_leaves (Err (begins.Future clock)) ok is_active is_spent never same = absurd (never clock refl)

  pub as_of_leaves : (time : ℕ) (result : Result ℕ BeginFault) → IfOk result (λ b. (b ≡ time) × ((clock : ℕ) × Begins v w s clock time true)) → ((result ≡ Err begins.Active) ↔ ((knows v s).is_open ≡ true))
      → ((result ≡ Err begins.Spent) ↔ (((knows v s).is_open ≡ false) × ((knows v s).number ≡ v.limits.txns))) → ((clock : ℕ) → result ≡ Err (begins.Future clock) → IsAhead v w s clock time)
      → ((result ≡ Err begins.Active) ⊎ (result ≡ Err begins.Spent) → w ≡ v) → AsOfLeaves v w s time (begin_reply result)
  as_of_leaves time (Ok b) ok is_active is_spent future same = ((closed, more), ok.0, ok.1)
    where
      closed : (knows v s).is_open ≡ false
      closed = not_true (knows v s).is_open (λ e. let f = is_active.1 e in absurd (cc))

      more : (knows v s).number ≢ v.limits.txns
      more e = let f = is_spent.1 (closed, e) in absurd (cc)
  as_of_leaves time (Err begins.Active) ok is_active is_spent future same = (is_active.0 refl, same (inl refl))
  as_of_leaves time (Err begins.Spent) ok is_active is_spent future same = (is_spent.0 refl, same (inr refl))
  as_of_leaves time (Err (begins.Future clock)) ok is_active is_spent future same = ((closed, more), future clock refl)
    where
      closed : (knows v s).is_open ≡ false
      closed = not_true (knows v s).is_open (λ e. let f = is_active.1 e in absurd (cc))

      more : (knows v s).number ≢ v.limits.txns
      more e = let f = is_spent.1 (closed, e) in absurd (cc)

  pub write_leaves : (key most : ℕ) (act : Act) (result : Result (Unit {0}) WriteRefusal) → OnOk result (Accepts v w s key most act) → IfErr result (λ refusal. Refuses v w s key most × Cause v w s key act refusal) → WriteLeaves v w s key most act (write_reply result)
  write_leaves key most act (Ok done) ok err = ok
  write_leaves key most act (Err refusal) ok err = let both : Refuses v w s key most × Cause v w s key act refusal = err in (refusal, refl, both.0, both.1)

  pub commit_leaves : (result : Result Outcome Idle) → ((time : ℕ) → result ≡ Ok (Committed time) → Commits v w s time) → ((time : ℕ) → result ≡ Ok (Ended time) → (time ≡ (knows v s).begin) × ((knows v s).own ≡ []) × Ends v w s)
      → (IsErr result ↔ ((knows v s).is_open ≡ false)) → OnErr result (w ≡ v) → CommitLeaves v w s (commit_reply result)
  commit_leaves (Ok (Committed time)) committed ended idle same = (not_false (knows v s).is_open (λ e. true≢false (sym (idle.1 e))), committed time refl)
  commit_leaves (Ok (Ended time)) committed ended idle same = let x = ended time refl in (not_false (knows v s).is_open (λ e. true≢false (sym (idle.1 e))), x.0, x.1, x.2)
  commit_leaves (Err none) committed ended idle same = (idle.0 refl, same)
