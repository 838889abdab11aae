-- The writes of open transactions, one more line at a time.
use Rattle.std.proofs.Common.{◌≡◌, ℕ, ◌<◌, Bool, true, false, cond, eqb, List, [], ◌∷◌, ◌++◌, length, get_or, set, Option, Some, None, refl, sym, ap, ◌∙◌, subst}
use Rattle.std.proofs.lemmas.Bool.{eqb-true, eqb-false}
use Rattle.std.proofs.lemmas.List.{get_or-set_same, get_or-set_other, length-set}
use Rattle.std.proofs.lemmas.List.Sums.{fold_push}
use Rattle.std.proofs.lemmas.Option.{same_Some, none-some}
use Rattle.lst_model.specs.declared.acts.Write.{Write}
use Rattle.lst_model.specs.declared.lines.Line.TheVariants.{Phase, Merge, Call}
use Rattle.lst_model.specs.declared.lines.Call.{Call as CallKind}
use Rattle.lst_model.specs.declared.replies.Reply.{Reply}
use Rattle.lst_model.specs.declared.replies.Reply.TheVariants.{Begun, Done, Row, Absent, Committed, Ended, Aborted, Sum, Count, Rows, Keys, Refused, Merged, NothingNew, NoFrame, Silent}
use Rattle.lst_model.specs.Histories.{by_key, joined}
use Rattle.lst_replies.specs.declared.states.Transaction.{Transaction}
use Rattle.lst_replies.specs.declared.states.SessionState.{SessionState}
use Rattle.lst_replies.specs.Runs.{Answered, answered, write_of}
use Rattle.lst_replies.specs.States.{after_call, state_of, with_write}
use Rattle.lst_legal_runs.specs.Gathering.{ArePending, pending_after, with_pending}
use Rattle.lst_legal_runs.proofs.Behind.{state_of-push}

-- ---- one session's

-- the writes of the open transaction, if there is one, are these
abbrev AreOf : SessionState → List Write → Type 0
AreOf state pending = (transaction : Transaction) → state.current ≡ Some transaction → transaction.writes ≡ by_key pending

written : (write : Option Write) (current : Option Transaction) (pending : List Write) → ((transaction : Transaction) → current ≡ Some transaction → transaction.writes ≡ by_key pending)
    → (transaction : Transaction) → with_write write current ≡ Some transaction → transaction.writes ≡ by_key (with_pending write pending)
written None current pending are transaction e = are transaction e
written (Some write) None pending are transaction e = absurd (none-some transaction e)
written (Some write) (Some old) pending are transaction e =
    let same : record old { writes = joined old.writes write } ≡ transaction = same_Some _ _ e in
    ap (λ (t : Transaction). t.writes) (sym same) ∙ ap (λ ws. joined ws write) (are old refl) ∙ sym (fold_push joined [] pending write)

after_one : (call : CallKind) (reply : Reply) (state : SessionState) (pending : List Write) → AreOf state pending → AreOf (after_call call reply state) (pending_after call reply pending)
after_one call (Begun time) state pending are = λ transaction e. ap (λ (t : Transaction). t.writes) (sym (same_Some _ _ e))
after_one call Done state pending are = written (write_of call) state.current pending are
after_one call (Row row) state pending are = are
after_one call Absent state pending are = are
after_one call (Committed time) state pending are = λ transaction e. absurd (none-some transaction e)
after_one call (Ended time) state pending are = λ transaction e. absurd (none-some transaction e)
after_one call Aborted state pending are = λ transaction e. absurd (none-some transaction e)
after_one call (Sum total) state pending are = are
after_one call (Count rows) state pending are = are
after_one call (Rows list) state pending are = are
after_one call (Keys list) state pending are = are
after_one call (Refused cause) state pending are = are
after_one call (Merged tps) state pending are = are
after_one call (NothingNew tps) state pending are = are
after_one call (NoFrame session) state pending are = are
after_one call Silent state pending are = are

-- ---- all of them

module _ (pending : List (List Write)) (front : List Answered) (reply : Reply) where
  pub pending_phase : ArePending pending front → ArePending pending (front ++ answered Phase reply ∷ [])
  pending_phase are session transaction below e = are session transaction below (ap (λ (s : SessionState). s.current) (sym (state_of-push session front (answered Phase reply))) ∙ e)

  pub pending_merge : (range column : ℕ) → ArePending pending front → ArePending pending (front ++ answered (Merge range column) reply ∷ [])
  pending_merge range column are session transaction below e = are session transaction below (ap (λ (s : SessionState). s.current) (sym (state_of-push session front (answered (Merge range column) reply))) ∙ e)

  pub pending_call : (speaker : ℕ) (call : CallKind) (next : List Write) → speaker < length pending → next ≡ pending_after call reply (get_or pending speaker []) → ArePending pending front → ArePending (set pending speaker next) (front ++ answered (Call speaker call) reply ∷ [])
  pending_call speaker call next within is are session transaction below e =
      by_test (eqb speaker session) refl (ap (λ (s : SessionState). s.current) (sym (state_of-push session front (answered (Call speaker call) reply))) ∙ e)
    where
      by_test : (b : Bool) → eqb speaker session ≡ b → (cond b (after_call call reply (state_of session front)) (state_of session front)).current ≡ Some transaction → transaction.writes ≡ by_key (get_or (set pending speaker next) session [])
      by_test true same open_now =
          subst (λ (s : ℕ). (after_call call reply (state_of s front)).current ≡ Some transaction → transaction.writes ≡ by_key (get_or (set pending speaker next) s [])) (eqb-true speaker session same)
          (λ now. after_one call reply (state_of speaker front) (get_or pending speaker []) (λ t h. are speaker t within h) transaction now ∙ ap by_key (sym is ∙ sym (get_or-set_same pending speaker next [] within)))
          open_now
      by_test false other open_now =
          are session transaction (subst (λ (n : ℕ). session < n) (length-set pending speaker next) below) open_now
          ∙ ap by_key (sym (get_or-set_other pending speaker session next [] (λ h. eqb-false speaker session other (sym h))))
