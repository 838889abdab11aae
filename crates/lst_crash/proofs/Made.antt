-- The commit that a line makes: in the machine's state, and in what a crew knows.
use Rattle.std.specs.Prelude.{not}
use Rattle.std.proofs.Common.{◌≡◌, ◌⊎◌, inl, inr, ℕ, ◌+◌, ◌<◌, Bool, true, false, List, [], ◌∷◌, ◌++◌, length, Option, Some, None, refl, sym, ap, ◌∙◌, subst, arith}
use Rattle.lst_layout.specs.declared.limits.Limits.{Limits}
use Rattle.lst_model.specs.declared.acts.Write.{Write}
use Rattle.lst_model.specs.declared.commits.Commit.{Commit}
use Rattle.lst_model.specs.declared.lines.Call.{Call as CallValue}
use Rattle.lst_model.specs.declared.lines.Call.TheVariants as call
use Rattle.lst_model.specs.declared.lines.Line.{Line}
use Rattle.lst_model.specs.declared.lines.Line.TheVariants.{Phase, Merge, Call}
use Rattle.lst_model.specs.declared.replies.Reply.{Reply}
use Rattle.lst_model.specs.declared.replies.Reply.TheVariants as reply
use Rattle.lst_model.specs.declared.replies.Cause.{Cause}
use Rattle.lst_model.specs.declared.replies.Cause.TheVariants.{NotIndexed}
use Rattle.lst_model.specs.Cells.{Cell}
use Rattle.lst_model.specs.Tables.{row_of, find_of}
use Rattle.lst_model.specs.Lines.{LineFits}
use Rattle.lst_machine.specs.State.{Opened, Store, State}
use Rattle.lst_machine.specs.Writes.{own_writes, sight_of}
use Rattle.lst_machine.specs.Calls.{begin_refusal, as_of_refusal, insert_refusal, change_refusal, where_true, is_indexed, refused_or, in_open, row_reply, end_reply, call_reply, store_after}
use Rattle.lst_machine.specs.Machine as machine
use Rattle.lst_core_state.specs.declared.known.Known.{Known}
use Rattle.lst_core_state.specs.Writes.{commit}
use Rattle.lst_refinement.proofs.Owns.{own_writes_are_told}
use Rattle.lst_rule.specs.declared.view.View.{View}
use Rattle.lst_rule.specs.Rule.{knows}
use Rattle.lst_rule.specs.Learned.{Possible}
use Rattle.lst_session.specs.Crews.{store_told}
use Rattle.lst_session.proofs.Crewed.{IsCrewView, core_of, known_is, is_crew, told_is, begins_is, opened_by, opened_some, opened_none}
use Rattle.lst_redo.specs.declared.journal.Kept.TheVariants.{Reply as Replied}
use Rattle.lst_redo.specs.Answers.{CommitsWrites, commits_after}
use Rattle.lst_redo.specs.Owns.{commit_of}
use Rattle.lst_redo.proofs.Telling.{line_history, committed_history}
use Rattle.lst_crash.specs.Crashes.{commit_made, commit_in, commit_by}

-- ---- in the machine: a line that makes none is not answered that it committed

refused_not : (o : Option Cause) (r : Reply) (time : ℕ) → (r ≡ reply.Committed time → ⊥) → refused_or o r ≡ reply.Committed time → ⊥
refused_not None r time never e = never e
refused_not (Some why) r time never e = cc

open_not : (o : Option Opened) (f : Opened → Reply) (time : ℕ) → ((t : Opened) → f t ≡ reply.Committed time → ⊥) → in_open o f ≡ reply.Committed time → ⊥
open_not None f time never e = cc
open_not (Some t) f time never e = never t e

row_not : (o : Option (List Cell)) (time : ℕ) → row_reply o ≡ reply.Committed time → ⊥
row_not None time e = cc
row_not (Some row) time e = cc

begun_not : (begin time : ℕ) → reply.Begun begin ≡ reply.Committed time → ⊥
begun_not begin time e = cc

done_not : (time : ℕ) → reply.Done ≡ reply.Committed time → ⊥
done_not time e = cc

module _ (limits : Limits) (store : Store) (s : ℕ) where
  made_not : (t : Opened) (writes : List Write) (time : ℕ) → commit_made store s t writes ≡ None → end_reply store t writes ≡ reply.Committed time → ⊥
  made_not t [] time none e = cc
  made_not t (w ∷ writes) time none e = cc

  commit_not : (o : Option Opened) (time : ℕ) → commit_in limits store s o ≡ None → in_open o (λ t. end_reply store t (own_writes limits store s)) ≡ reply.Committed time → ⊥
  commit_not None time none e = cc
  commit_not (Some t) time none e = made_not t (own_writes limits store s) time none e

  call_not : (c : CallValue) (time : ℕ) → commit_by limits store (Call s c) ≡ None → call_reply limits store s c ≡ reply.Committed time → ⊥
  call_not call.Begin time none e = refused_not (begin_refusal limits store s) _ time (begun_not _ time) e
  call_not (call.AsOf at) time none e = refused_not (as_of_refusal limits store s at) _ time (begun_not at time) e
  call_not (call.Get key) time none e = open_not (store.opened s) _ time (λ t. row_not (row_of (sight_of limits store s t.begin) key) time) e
  call_not (call.Insert key row) time none e = open_not (store.opened s) _ time (λ t. refused_not (insert_refusal limits store s t key) reply.Done time (done_not time)) e
  call_not (call.Update key patch) time none e = open_not (store.opened s) _ time (λ t. refused_not (change_refusal limits store s t key) reply.Done time (done_not time)) e
  call_not (call.Delete key) time none e = open_not (store.opened s) _ time (λ t. refused_not (change_refusal limits store s t key) reply.Done time (done_not time)) e
  call_not (call.Sum column) time none e = open_not (store.opened s) _ time (λ t x. cc) e
  call_not call.Count time none e = open_not (store.opened s) _ time (λ t x. cc) e
  call_not call.Scan time none e = open_not (store.opened s) _ time (λ t x. cc) e
  call_not (call.Find column number) time none e = open_not (store.opened s) _ time (λ t. refused_not (where_true (not (is_indexed limits column)) NotIndexed) (reply.Keys (find_of (sight_of limits store s t.begin) column number)) time (λ x. cc)) e
  call_not call.Commit time none e = commit_not (store.opened s) time none e
  call_not call.Abort time none e = open_not (store.opened s) _ time (λ t x. cc) e

module _ (limits : Limits) (state : State) where
  -- the machine's history stays
  pub history_stays : (line : Line) → commit_by limits state.store line ≡ None → (machine.next limits state line).store.history ≡ state.store.history
  history_stays Phase none = refl
  history_stays (Merge range column) none = refl
  history_stays (Call s c) none = line_history limits state (Call s c) (λ time e. call_not limits state.store s c time none e)

  -- and so do the journal's commits
  pub commits_stay : (v : View) (commits : List Commit) (line : Line) → commit_by limits state.store line ≡ None → commits_after v commits line (Replied (machine.reply limits state line)) ≡ commits
  commits_stay v commits (Call s call.Commit) none = at (call_reply limits state.store s call.Commit) refl
    where
      at : (r : Reply) → call_reply limits state.store s call.Commit ≡ r → commits_after v commits (Call s call.Commit) (Replied r) ≡ commits
      at (reply.Committed time) e = absurd (call_not limits state.store s call.Commit time none e)
      at r e = refl
  commits_stay v commits (Call s c) none = refl
  commits_stay v commits line none = refl

-- ---- in what a crew knows

-- a line that commits writes makes that commit
pub record MakesCommit (v : View) (line : Line) : Type 0 where
  pub session : ℕ
  pub is : line ≡ Call session call.Commit
  pub low : session < v.limits.sessions
  pub is_open : (knows v session).is_open ≡ true
  pub some : 0 < length (knows v session).own
  pub made : commit_by v.limits (store_told v) line ≡ Some (commit_of v session)

-- and any other line none
pub record MakesNothing (v : View) (line : Line) : Type 0 where
  pub none : CommitsWrites v line → ⊥
  pub made : commit_by v.limits (store_told v) line ≡ None

module _ (v : View) (crew : IsCrewView v) (p : Possible v) where
  module _ (s : ℕ) (low : s < v.limits.sessions) where
    own_told : (knows v s).is_open ≡ true → own_writes v.limits (store_told v) s ≡ (knows v s).own
    own_told is_open =
        let known = known_is v crew p s low in
        ap (λ (st : Store). own_writes v.limits st s) (told_is v crew p)
        ∙ own_writes_are_told (core_of v crew p) (is_crew v crew p) s low (ap (λ (k : Known). k.is_open) (sym known) ∙ is_open) ∙ ap (λ (k : Known). k.own) (sym known)

    by_own : (knows v s).is_open ≡ true → commit_by v.limits (store_told v) (Call s call.Commit) ≡ commit_made (store_told v) s (opened_by v s low) (knows v s).own
    by_own is_open = ap (commit_in v.limits (store_told v) s) (opened_some v s low is_open) ∙ ap (commit_made (store_told v) s (opened_by v s low)) (own_told is_open)

    -- that of an open transaction with writes
    pub made_some : (knows v s).is_open ≡ true → 0 < length (knows v s).own → commit_by v.limits (store_told v) (Call s call.Commit) ≡ Some (commit_of v s)
    made_some is_open some = by_own is_open ∙ at (knows v s).own some ∙ ap (λ (n : ℕ). Some (commit s n (knows v s).begin (knows v s).own)) (begins_is v s low)
      where
        at : (ws : List Write) → 0 < length ws → commit_made (store_told v) s (opened_by v s low) ws ≡ Some (commit s ((store_told v).begins s) (knows v s).begin ws)
        at [] none = absurd (omega (arith, none))
        at (w ∷ ws) more = refl

    -- and none of any other
    pub made_none : (CommitsWrites v (Call s call.Commit) → ⊥) → commit_by v.limits (store_told v) (Call s call.Commit) ≡ None
    made_none never = at (knows v s).is_open refl (knows v s).own refl
      where
        at : (b : Bool) → (knows v s).is_open ≡ b → (ws : List Write) → (knows v s).own ≡ ws → commit_by v.limits (store_told v) (Call s call.Commit) ≡ None
        at false shut ws own = ap (commit_in v.limits (store_told v) s) (opened_none v s low shut)
        at true is_open [] own = by_own is_open ∙ ap (commit_made (store_told v) s (opened_by v s low)) own
        at true is_open (w ∷ ws) own = absurd (never (is_open, subst (λ (l : List Write). 0 < length l) (sym own) (omega arith)))

    -- it is answered that it committed, and the machine's history is longer by it
    pub reply_committed : (knows v s).is_open ≡ true → 0 < length (knows v s).own → call_reply v.limits (store_told v) s call.Commit ≡ reply.Committed (length (store_told v).history + 1)
    reply_committed is_open some =
        ap (λ (o : Option Opened). in_open o (λ t. end_reply (store_told v) t (own_writes v.limits (store_told v) s))) (opened_some v s low is_open)
        ∙ ap (end_reply (store_told v) (opened_by v s low)) (own_told is_open) ∙ ended (knows v s).own some
      where
        ended : (ws : List Write) → 0 < length ws → end_reply (store_told v) (opened_by v s low) ws ≡ reply.Committed (length (store_told v).history + 1)
        ended [] none = absurd (omega (arith, none))
        ended (w ∷ ws) more = refl

    pub history_grows : (knows v s).is_open ≡ true → 0 < length (knows v s).own → (store_after v.limits (store_told v) s call.Commit).history ≡ (store_told v).history ++ commit_of v s ∷ []
    history_grows is_open some =
        committed_history v.limits (store_told v) s (opened_by v s low) (knows v s).own (opened_some v s low is_open) (own_told is_open) some
        ∙ ap (λ (n : ℕ). (store_told v).history ++ commit s n (knows v s).begin (knows v s).own ∷ []) (begins_is v s low)

  pub by_line : (line : Line) → LineFits v.limits.sessions v.limits.ranges v.limits.columns line → MakesCommit v line ⊎ MakesNothing v line
  by_line Phase fits = inr record { none = λ x. absurd x; made = refl }
  by_line (Merge range column) fits = inr record { none = λ x. absurd x; made = refl }
  by_line (Call s call.Commit) fits = at (knows v s).is_open refl (knows v s).own refl
    where
      none : (CommitsWrites v (Call s call.Commit) → ⊥) → MakesCommit v (Call s call.Commit) ⊎ MakesNothing v (Call s call.Commit)
      none never = inr record { none = never; made = made_none s fits.0 never }

      at : (b : Bool) → (knows v s).is_open ≡ b → (ws : List Write) → (knows v s).own ≡ ws → MakesCommit v (Call s call.Commit) ⊎ MakesNothing v (Call s call.Commit)
      at false shut ws own = none (λ x. let clash : false ≡ true = sym shut ∙ x.0 in absurd (cc))
      at true is_open [] own = none (λ x. let short : length (knows v s).own ≡ 0 = ap length own in let long = x.1 in omega (arith, short, long))
      at true is_open (w ∷ ws) own =
          let some : 0 < length (knows v s).own = subst (λ (l : List Write). 0 < length l) (sym own) (omega arith) in
          inl record { session = s; is = refl; low = fits.0; is_open = is_open; some = some; made = made_some s fits.0 is_open some }
  by_line (Call s c) fits = inr record { none = λ x. absurd x; made = refl }
