-- The page part of the state that a crew tells after a session's call: told by the session's pin, while the merger's stock stays.
use Rattle.std.proofs.Common.{◌≡◌, ◌⊎◌, ℕ, ◌+◌, ◌<◌, true, false, Result, Ok, Err, IfOk, IfErr, OnOk, OnErr, refl, sym, subst, ap, ◌∙◌, inl, inr}
use mathlib.Core.Logic.{dite}
use native.Mathlib.Decide.{ℕ_discrete}
use Rattle.lst_layout.specs.declared.limits.Limits.{Limits}
use Rattle.lst_model.specs.declared.acts.Act.{Act}
use Rattle.lst_model.specs.declared.lines.Call.{Call}
use Rattle.lst_model.specs.declared.lines.Call.TheVariants as call
use Rattle.lst_model.specs.declared.lines.Line.TheVariants as line
use Rattle.lst_model.specs.declared.replies.Cause.{Cause}
use Rattle.lst_model.specs.declared.replies.Cause.TheVariants as cause
use Rattle.lst_model.specs.declared.replies.Reply.{Reply}
use Rattle.lst_model.specs.declared.replies.Reply.TheVariants.{Begun, Refused}
use Rattle.lst_machine.specs.Merges.{ended_where, pages_after_call}
use Rattle.lst_core_state.specs.declared.known.Known.{Known}
use Rattle.lst_core_state.specs.declared.pages.MergerFrames.{MergerFrames}
use Rattle.lst_rule.specs.declared.view.View.{View}
use Rattle.lst_rule.specs.Rule.{knows, hosts}
use Rattle.lst_rule.specs.PageSteps.{stock_of}
use Rattle.lst_txn.specs.declared.begins.BeginFault.{BeginFault}
use Rattle.lst_txn.specs.declared.begins.BeginFault.TheVariants as begins
use Rattle.lst_txn.specs.declared.ends.Idle.{Idle}
use Rattle.lst_refinement.specs.Effects.{SamePinEach, SamePinBut, SameStock, begins_or_ends}
use Rattle.lst_refinement.specs.Telling.{told_pages}
use Rattle.lst_refinement.proofs.PageParts.{pins_and_pages_are_told, pinned_begins_are_told, pinned_ends_are_told, other_calls_leave_pages}
use Rattle.lst_session.specs.declared.kinds.WriteRefusal.{WriteRefusal}
use Rattle.lst_session.specs.declared.kinds.Outcome.{Outcome}
use Rattle.lst_session.specs.declared.kinds.Outcome.TheVariants.{Committed, Ended}
use Rattle.lst_session.specs.Traces as traces
use Rattle.lst_session.specs.Calls as calls
use Rattle.lst_rule.specs.Watching.{SamePins}
use Rattle.lst_session.specs.Calls.{Called, TakesPinAway, OnlyLooks, Begins, IsAhead, Accepts, Refuses}
use Rattle.lst_session.specs.Crews.{store_told, pages_known, state_told, Answers, AnswersLine}
use Rattle.lst_session.specs.Replies.{begin_cause, begin_reply, commit_reply, abort_reply}
use Rattle.lst_session.proofs.Crewed.{StoreAnswers, opened_by, opened_some}
use Rattle.lst_session.proofs.Growing.{stock_stays, pins_stay}
use Rattle.lst_session.proofs.Keeping.{called_same}
use Rattle.lst_pages.specs.Runs.{tps_known}
use Rattle.lst_session.proofs.Turning as turning

pub same_stock : (l : Limits) (m o : MergerFrames) → o ≡ m → SameStock l m o
same_stock l m o e = record { tps = λ r c page. ap (λ (x : MergerFrames). tps_known x r c) e; epoch = ap (λ (x : MergerFrames). x.epoch) e }

module _ (v w : View) (s : ℕ) (low : s < v.limits.sessions) (called : Called v w s) where
  stock : SameStock v.limits (stock_of v) (stock_of w)
  stock = same_stock v.limits (stock_of v) (stock_of w) (stock_stays v w s (knows w s) called.learns low)

  others : SamePinBut v.limits.sessions s (knows v) (knows w)
  others t few ne = ap (λ (k : Known). k.pages.session.pin) (called.learns.others t ne)

  each : SamePins (knows v s) (knows w s) → SamePinEach v.limits.sessions (knows v) (knows w)
  each same t few = dite (ℕ_discrete t s)
      (λ e. subst (λ (x : ℕ). (knows w x).pages.session.pin ≡ (knows v x).pages.session.pin) (sym e) same.pin)
      (λ ne. others t few ne)

  module _ (c : Call) (answer : Reply) (a : StoreAnswers v w s c answer) where
    whole : told_pages v.limits (knows w) (stock_of w) ≡ pages_after_call v.limits (store_told v) (pages_known v) s c → Answers v w s c answer
    whole e = let pages : pages_known w ≡ pages_after_call v.limits (store_told v) (pages_known v) s c = ap (λ (l : Limits). told_pages l (knows w) (stock_of w)) called.learns.limits ∙ e in
        record { reply = a.reply; next = λ i. record { store = a.next i; pages = pages i }; limits = a.limits }

    -- the pin stays
    pub still_answers : SamePins (knows v s) (knows w s) → begins_or_ends c ≡ false → Answers v w s c answer
    still_answers same neither = whole (other_calls_leave_pages v.limits (store_told v) (knows v) (knows w) (stock_of v) (stock_of w) s c (inl neither) (each same) stock)

    pub refused_answers : SamePins (knows v s) (knows w s) → (why : Cause) → answer ≡ Refused why → Answers v w s c answer
    refused_answers same why is = whole (other_calls_leave_pages v.limits (store_told v) (knows v) (knows w) (stock_of v) (stock_of w) s c (inr (why, sym a.reply ∙ is)) (each same) stock)

    -- the merger's epoch is pinned
    pub begun_answers : (time epoch : ℕ) → answer ≡ Begun time → (knows w s).pages.session.pin ≡ epoch + 1 → epoch ≡ (stock_of v).epoch → Answers v w s c answer
    begun_answers time epoch is pin now = whole (pinned_begins_are_told v.limits (store_told v) (knows v) (knows w) (stock_of v) (stock_of w) s time c low (sym a.reply ∙ is) others (pin ∙ ap (λ (n : ℕ). n + 1) now) stock)

    -- the pin is taken away
    ended_pages : (knows v s).is_open ≡ true → TakesPinAway (knows v s) (knows w s) → told_pages v.limits (knows w) (stock_of w) ≡ ended_where ((store_told v).opened s) (pages_known v) s
    ended_pages is_on away = pinned_ends_are_told v.limits (store_told v) (knows v) (knows w) (stock_of v) (stock_of w) s (opened_by v s low) low (opened_some v s low is_on) others away.pin stock

    pub ended_answers : (pages_after_call v.limits (store_told v) (pages_known v) s c ≡ ended_where ((store_told v).opened s) (pages_known v) s) → (knows v s).is_open ≡ true → TakesPinAway (knows v s) (knows w s) → Answers v w s c answer
    ended_answers is is_on away = whole (ended_pages is_on away ∙ sym is)

-- ---- a session that only looks

pub state_stays : (v w : View) (s : ℕ) → s < v.limits.sessions → OnlyLooks v w s → store_told w ≡ store_told v → state_told w ≡ state_told v
state_stays v w s low looks told = let pages : pages_known w ≡ pages_known v = ap (λ (l : Limits). told_pages l (knows w) (stock_of w)) looks.called.learns.limits
    ∙ pins_and_pages_are_told v.limits (knows v) (knows w) (stock_of v) (stock_of w) (each v w s low looks.called looks.pins) (stock v w s low looks.called) in
    λ i. record { store = told i; pages = pages i }

-- ---- the calls

module _ (v w : View) (s : ℕ) (low : s < v.limits.sessions) where
  -- nothing was done
  pub same_pins_at : w ≡ v → SamePins (knows v s) (knows w s)
  same_pins_at e = subst (λ (u : View). SamePins (knows v s) (knows u s)) (sym e) (pins_stay (knows v s))

  pub begin_paged : hosts v v.limits.sessions ≡ true → (result : Result ℕ BeginFault) → IfOk result (λ b. Begins v w s b b false) → OnErr result (w ≡ v) → StoreAnswers v w s call.Begin (begin_reply result) → Answers v w s call.Begin (begin_reply result)
  begin_paged hosted (Ok b) ok same a = begun_answers v w s low ok.called call.Begin (Begun b) a b ok.epoch refl ok.pin (ok.current hosted)
  begin_paged hosted (Err fault) ok same a = refused_answers v w s low (called_same v w s same) call.Begin (Refused (begin_cause fault)) a (same_pins_at same) (begin_cause fault) refl

  pub as_of_paged : hosts v v.limits.sessions ≡ true → (time : ℕ) (result : Result ℕ BeginFault) → IfOk result (λ b. (b ≡ time) × ((clock : ℕ) × Begins v w s clock time true)) → ((clock : ℕ) → result ≡ Err (begins.Future clock) → IsAhead v w s clock time)
      → ((result ≡ Err begins.Active) ⊎ (result ≡ Err begins.Spent) → w ≡ v) → StoreAnswers v w s (call.AsOf time) (begin_reply result) → Answers v w s (call.AsOf time) (begin_reply result)
  as_of_paged hosted time (Ok b) ok future same a = let x = ok.1.1 in begun_answers v w s low x.called (call.AsOf time) (Begun b) a b x.epoch refl x.pin (x.current hosted)
  as_of_paged hosted time (Err begins.Active) ok future same a = let e = same (inl refl) in refused_answers v w s low (called_same v w s e) (call.AsOf time) (Refused (begin_cause begins.Active)) a (same_pins_at e) (begin_cause begins.Active) refl
  as_of_paged hosted time (Err begins.Spent) ok future same a = let e = same (inr refl) in refused_answers v w s low (called_same v w s e) (call.AsOf time) (Refused (begin_cause begins.Spent)) a (same_pins_at e) (begin_cause begins.Spent) refl
  as_of_paged hosted time (Err (begins.Future clock)) ok future same a = let x = future clock refl in refused_answers v w s low x.called (call.AsOf time) (Refused (begin_cause (begins.Future clock))) a x.pins (begin_cause (begins.Future clock)) refl

  pub write_paged : (key most : ℕ) (act : Act) (c : Call) → begins_or_ends c ≡ false → (answer : Reply) (result : Result (Unit {0}) WriteRefusal) → OnOk result (Accepts v w s key most act)
      → IfErr result (λ refusal. Refuses v w s key most × calls.Cause v w s key act refusal) → StoreAnswers v w s c answer → Answers v w s c answer
  write_paged key most act c neither answer (Ok done) ok err a = still_answers v w s low ok.called c answer a ok.pins neither
  write_paged key most act c neither answer (Err refusal) ok err a = let both : Refuses v w s key most × calls.Cause v w s key act refusal = err in still_answers v w s low both.0.called c answer a both.0.pins neither

  pub end_paged : (knows v s).is_open ≡ true → (outcome : Outcome) → traces.Ends v w s outcome → StoreAnswers v w s call.Commit (commit_reply (Ok outcome)) → Answers v w s call.Commit (commit_reply (Ok outcome))
  end_paged is_on (Committed time) e a = let x = turning.commits v w s time e.1 e.0 in ended_answers v w s low x.called call.Commit (commit_reply (Ok (Committed time))) a refl is_on x.unpinned
  end_paged is_on (Ended time) e a = let x = turning.ends v w s e.2 in ended_answers v w s low x.called call.Commit (commit_reply (Ok (Ended time))) a refl is_on x.unpinned

  pub abort_paged : (result : Result (Unit {0}) Idle) → OnOk result (((knows v s).is_open ≡ true) × calls.Ends v w s) → OnErr result (((knows v s).is_open ≡ false) × (w ≡ v)) → StoreAnswers v w s call.Abort (abort_reply result)
      → Answers v w s call.Abort (abort_reply result)
  abort_paged (Ok done) ok err a = ended_answers v w s low ok.1.called call.Abort (abort_reply (Ok done)) a refl ok.0 ok.1.unpinned
  abort_paged (Err none) ok err a = refused_answers v w s low (called_same v w s err.1) call.Abort (abort_reply (Err none)) a (same_pins_at err.1) cause.Idle refl

-- as a line
pub call_answers : (v w : View) (s : ℕ) (c : Call) (answer : Reply) → Answers v w s c answer → AnswersLine v w (line.Call s c) answer
call_answers v w s c answer a = record { is = a.reply; then = a.next; limits = a.limits }
