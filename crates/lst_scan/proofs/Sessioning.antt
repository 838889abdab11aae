-- What a session leaves that answers a call at a seat of its own.
use Rattle.std.proofs.Common.{◌≡◌, ◌<◌, ◌≤◌, ℕ, Bool, true, false, Result, Ok, Err, IfOk, OnErr, refl, ap, arith}
use Rattle.std.specs.Prelude.{◌↔◌, IsErr}
use Rattle.lst_model.specs.declared.lines.Call.{Call}
use Rattle.lst_model.specs.declared.memory.OutOfMemory.{OutOfMemory}
use Rattle.lst_model.specs.declared.replies.Reply.{Reply}
use Rattle.lst_core_state.specs.declared.known.Known.{Known}
use Rattle.lst_core_state.specs.State.{state_over}
use Rattle.lst_rule.specs.declared.view.View.{View}
use Rattle.lst_rule.specs.Rule.{knows, hosts}
use Rattle.lst_rule.specs.Learned.{Possible}
use Rattle.lst_rule.specs.declared.store.Store.{Store}
use Rattle.lst_rule.specs.Seats.{Sitting}
use Rattle.lst_rule.specs.Stores.{IsSeatOf}
use Rattle.lst_rule.proofs.Knowing.{knows_own}
use Rattle.lst_rule.proofs.Bounded.{numbers_few}
use Rattle.lst_rule.specs.Watching.{Watched}
use Rattle.lst_txn.specs.declared.ends.Idle.{Idle}
use Rattle.lst_session.specs.declared.kinds.Outcome.{Outcome}
use Rattle.lst_session.specs.declared.kinds.Outcome.TheVariants.{Committed, Ended}
use Rattle.lst_session.specs.declared.session.Session.{Session}
use Rattle.lst_session.specs.Calls.{Called}
use Rattle.lst_session.specs.Passes.{IsReady}
use Rattle.lst_session.specs.Lending.{with_seat}
use Rattle.lst_session.specs.Waits.{Concludes, ConcludesAtLast}
use Rattle.lst_session.specs.Replies.{commit_reply}
use Rattle.lst_session.proofs.Keeping.{called_same}
use Rattle.lst_scan.specs.Lines.{HasScanned}
use Rattle.lst_session.proofs.Growing.{begun_early}
use Rattle.lst_scan.specs.Sessions.{EndLeaves, AnswerLeaves, AfterCall}
use Rattle.lst_scan.proofs.Leaving.{readers_only_look, sessions_stay_ready}

-- ---- a scan

module _ (store : Store) (session : Session) (seat : Sitting) (is : IsReady store session) (of : IsSeatOf store seat) (opened : (knows session.seat.view session.number).is_open ≡ true) (watched : Watched session.seat.view seat.view session.number) where
  pub session_still : IsReady store (with_seat session seat)
  session_still = sessions_stay_ready store session seat is of watched

  pub session_scanned : HasScanned session.seat.view seat.view session.number
  session_scanned = let both = readers_only_look session.seat.view seat.view session.number is.own watched in record { opened = opened; looks = both.0; room = both.1 }

-- ---- a commit

not_false : (b : Bool) → ¬ (b ≡ false) → b ≡ true
not_false true ne = refl
not_false false ne = absurd (ne refl)

module _ (v w : View) (s : ℕ) where
  concludes_called : (outcome : Outcome) → Concludes v w s outcome → Called v w s
  concludes_called (Committed time) c = c.called
  concludes_called (Ended time) c = c.2.called

  pub commit_called : (result : Result Outcome Idle) → IfOk result (λ outcome. ConcludesAtLast v w s outcome) → OnErr result (w ≡ v) → Called v w s
  commit_called (Ok outcome) ok still = concludes_called outcome ok.concludes
  commit_called (Err none) ok still = called_same v w s still

  pub commit_leaves : (result : Result Outcome Idle) → IfOk result (λ outcome. ConcludesAtLast v w s outcome) → (IsErr result ↔ ((knows v s).is_open ≡ false)) → OnErr result (w ≡ v) → EndLeaves v w s (commit_reply result)
  commit_leaves (Ok (Committed time)) ok idle still = (not_false (knows v s).is_open (λ e. let h = idle.1 e in cc), ok)
  commit_leaves (Ok (Ended time)) ok idle still = (not_false (knows v s).is_open (λ e. let h = idle.1 e in cc), ok)
  commit_leaves (Err none) ok idle still = (idle.0 refl, still)

-- ---- any call

-- in a view that is possible a session has begun at most as many transactions as it may
begun_few : (v : View) (s : ℕ) → Possible v → hosts v s ≡ true → s < v.limits.sessions → (knows v s).number ≤ v.limits.txns
begun_few v s p host own = let is = knows_own v p.words p.known p.merger p.allowed s host (λ f. omega arith) in let e = ap (λ (k : Known). k.number) is in
    let few = (numbers_few (state_over v.limits p.words p.known p.merger) p.allowed.sound s own).0 in omega arith

pub after_call : (store : Store) (session : Session) (w : View) (call : Call) (result : Result Reply OutOfMemory) → IsReady store session → Possible session.seat.view → Called session.seat.view w session.number
    → IfOk result (λ reply. AnswerLeaves session.seat.view w session.number call reply) → IfOk result (λ reply. AfterCall session.seat.view w session.number call reply)
after_call store session w call (Ok reply) ready p called leaves = record {
  called = called;
  few = begun_few session.seat.view session.number p ready.host ready.own;
  early = begun_early session.seat.view session.number p ready.host;
  leaves = leaves;
}
after_call store session w call (Err none) ready p called leaves = tt
