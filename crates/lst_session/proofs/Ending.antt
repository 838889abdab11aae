-- A transaction ends.
use Rattle.std.proofs.Common.{◌≡◌, ℕ, ◌<◌, [], Bool, true, false, refl, sym, subst, ap, ◌∙◌, arith, slice_set, true≢false}
use Rattle.std.specs.Prelude.{Result, Ok, Err, IfOk, OnErr, IsOk, ◌↔◌}
use Rattle.lst_layout.specs.declared.limits.Limits.{Limits}
use Rattle.lst_layout.specs.declared.place.Place.TheVariants.{StateWord}
use Rattle.lst_layout.specs.Addresses.{IsWithin, address}
use Rattle.lst_model.specs.declared.replies.Reply.TheVariants.{Aborted, Refused}
use Rattle.lst_model.specs.declared.replies.Cause.TheVariants as cause
use Rattle.lst_model.specs.declared.lines.Call.TheVariants.{Abort}
use Rattle.lst_machine.specs.State.{Store}
use Rattle.lst_machine.specs.Calls.{in_open, with_closed, after_abort}
use Rattle.lst_core_state.specs.declared.known.Known.{Known}
use Rattle.lst_core_state.specs.declared.known.Hold.{Hold}
use Rattle.lst_rule.specs.declared.view.View.{View}
use Rattle.lst_rule.specs.Rule.{knows}
use Rattle.lst_rule.specs.Learned.{Possible, Learns}
use Rattle.lst_rule.specs.Seats.{Sitting}
use Rattle.lst_txn.specs.declared.ends.Idle.{Idle}
use Rattle.lst_txn.specs.Transactions.{IsFree}
use Rattle.lst_refinement.specs.Crews.{IsIdle}
use Rattle.lst_refinement.specs.Effects.{HasEnded, closed_words}
use Rattle.lst_refinement.proofs.Ended.{closes_are_told}
use Rattle.lst_session.specs.Crews.{words_of, store_told}
use Rattle.lst_session.specs.Replies.{abort_reply}
use Rattle.lst_session.specs.Traces.{Closes}
use Rattle.lst_session.proofs.Pinning.{unpinned_crew, unpinned_told, answers_to}
use Rattle.lst_session.proofs.Crewed.{IsCrewView, StoreAnswers, allowed_whole, core_of, known_is, is_crew, told_is, others_on, opened_some, opened_none, set_words, same_draws, crew_after, told_on}

module _ (v w : View) (s : ℕ) (crew : IsCrewView v) (p : Possible v) (low : s < v.limits.sessions) (opened : (knows v s).is_open ≡ true) (learns : Learns v w s (record (knows v s) { is_open = false; own = [] }))
    (is : w.words ≡ slice_set v.words (address v.limits (StateWord s (knows v s).number)) 1) where
  known : knows v s ≡ p.known s
  known = known_is v crew p s low

  within : IsWithin v.limits (StateWord s (knows v s).number)
  within = let runs = (allowed_whole v crew p).sound.each s low in let number : (knows v s).number ≡ (p.known s).number = ap (λ (k : Known). k.number) known in
      let some = runs.open_number (ap (λ (k : Known). k.is_open) (sym known) ∙ opened) in let few = runs.few in (low, omega arith, omega arith)

  words : words_of w ≡ closed_words (words_of v) s (knows v s).number
  words = set_words v w (StateWord s (knows v s).number) 1 (allowed_whole v crew p).wide within learns.limits is

  pub closed_crew : IsCrewView w
  closed_crew = crew_after v w s (record (knows v s) { is_open = false; own = [] }) learns crew (let i = crew.idle s low in record { rec = i.rec; hold = i.hold; turn = i.turn })
      (let e = same_draws (closed_words (words_of v) s (knows v s).number) (words_of w) words in record { counter = e.counter; index = e.index; counts = e.counts })

  ended : HasEnded (p.known s) (knows w s)
  ended = record { number = ap (λ (k : Known). k.number) learns.now ∙ ap (λ (k : Known). k.number) known; is_open = ap (λ (k : Known). k.is_open) learns.now }

  pub closed_told : store_told w ≡ with_closed (store_told v) s
  closed_told = told_on v w s _ learns (closed_words (words_of v) s (p.known s).number) (words ∙ ap (λ (k : Known). closed_words (words_of v) s k.number) known)
      ∙ (closes_are_told (core_of v crew p) (is_crew v crew p) s (knows w) low (ap (λ (k : Known). k.is_open) (sym known) ∙ opened) (others_on v crew p w s _ learns) ended
      ∙ ap (λ (store : Store). with_closed store s) (sym (told_is v crew p)))

  pub aborts : StoreAnswers v w s Abort Aborted
  aborts = let is_opened = opened_some v s low opened in record {
    reply = λ i. in_open (sym is_opened i) (λ _. Aborted);
    next = closed_told ∙ (λ i. after_abort (store_told v) s (sym is_opened i));
    limits = learns.limits;
  }

-- where none is open, nothing happens
pub idle_abort : (v w : View) (s : ℕ) → s < v.limits.sessions → (knows v s).is_open ≡ false → w ≡ v → StoreAnswers v w s Abort (Refused cause.Idle)
idle_abort v w s low closed same = let none = opened_none v s low closed in record {
  reply = λ i. in_open (sym none i) (λ _. Aborted);
  next = ap store_told same ∙ (λ i. after_abort (store_told v) s (sym none i));
  limits = ap (λ (u : View). u.limits) same;
}

pub not_true : (b : Bool) → ¬ (b ≡ true) → b ≡ false
not_true true ne = absurd (ne refl)
not_true false ne = refl

-- a session with nothing in hand may end
pub is_free : (v : View) (s : ℕ) → IsIdle (knows v s) → IsFree (knows v s)
is_free v s idle = (idle.turn, ap (λ (h : Hold). h.latch) idle.hold)

pub abort_answers : (m n : Sitting) (s : ℕ) (result : Result (Unit {0}) Idle) → IsCrewView m.view → Possible m.view → s < m.view.limits.sessions → IfOk result (λ _. Closes m.view n.view s) → (IsOk result ↔ ((knows m.view s).is_open ≡ true)) → OnErr result (n ≡ m)
    → IsCrewView n.view × StoreAnswers m.view n.view s Abort (abort_reply result)
abort_answers m n s (Ok done) crew p low c idle same = let closed = closed_crew m.view c.between s crew p low (idle.0 refl) c.view c.words in let few : s < c.between.limits.sessions = subst (λ (l : Limits). s < l.sessions) (sym c.view.limits) low in (
  unpinned_crew c.between n.view s closed few c.unpins,
  answers_to m.view c.between n.view s Abort Aborted c.unpins.view.limits (unpinned_told c.between n.view s closed few c.unpins) (aborts m.view c.between s crew p low (idle.0 refl) c.view c.words),
)
abort_answers m n s (Err none) crew p low c idle same = (subst (λ (x : Sitting). IsCrewView x.view) (sym same) crew, idle_abort m.view n.view s low (not_true (knows m.view s).is_open (λ e. true≢false (sym (idle.1 e)))) (ap (λ (x : Sitting). x.view) same))
