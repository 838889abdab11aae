-- A session stays pinned exactly while it has a transaction open, whatever its calls answer.
use Rattle.std.proofs.Common.{List, ◌≡◌, ◌⊎◌, ℕ, ◌+◌, ◌<◌, Bool, true, false, Option, Result, Ok, Err, IfOk, IfErr, OnOk, OnErr, refl, sym, subst, ◌∙◌, arith, inl, inr, true≢false}
use Rattle.lst_model.specs.declared.acts.Act.{Act}
use Rattle.lst_model.specs.Cells.{Cell}
use Rattle.lst_core_state.specs.declared.known.Known.{Known}
use Rattle.lst_rule.specs.declared.view.View.{View}
use Rattle.lst_rule.specs.Rule.{knows}
use Rattle.lst_txn.specs.declared.begins.BeginFault.{BeginFault}
use Rattle.lst_txn.specs.declared.begins.BeginFault.TheVariants as begins
use Rattle.lst_txn.specs.declared.ends.Idle.{Idle}
use Rattle.lst_refinement.specs.Effects.{SameTransactions, HasBegun, HasEnded}
use Rattle.lst_session.specs.declared.kinds.WriteRefusal.{WriteRefusal}
use Rattle.lst_session.specs.declared.kinds.Outcome.{Outcome}
use Rattle.lst_session.specs.declared.kinds.Outcome.TheVariants.{Committed, Ended}
use Rattle.lst_session.specs.declared.kinds.CommitRefusal.{CommitRefusal}
use Rattle.lst_session.specs.declared.kinds.CommitRefusal.TheVariants as refusals
use Rattle.lst_session.specs.Traces as traces
use Rattle.lst_refinement.specs.Crews.{IsPinnedWhereOpen}
use Rattle.lst_rule.specs.Watching.{SamePins}
use Rattle.lst_session.specs.Calls.{TakesPinAway, OnlyLooks, Begins, IsAhead, Gets, Accepts, Refuses, Cause, Ends}
use Rattle.lst_session.proofs.Turning as turning

pub pinned_same : (u k : Known) → SameTransactions u k → SamePins u k → IsPinnedWhereOpen u → IsPinnedWhereOpen k
pinned_same u k t p is = ((λ some. t.is_open ∙ is.0 (subst (λ (n : ℕ). 0 < n) p.pin some)), (λ opened. subst (λ (n : ℕ). 0 < n) (sym p.pin) (is.1 (sym t.is_open ∙ opened))))

pub pinned_begun : (u k : Known) (b epoch : ℕ) (r : Bool) → HasBegun u k b r → k.pages.session.pin ≡ epoch + 1 → IsPinnedWhereOpen k
pinned_begun u k b epoch r begun pin = ((λ some. begun.is_open), (λ opened. omega arith))

pub pinned_ended : (u k : Known) → HasEnded u k → TakesPinAway u k → IsPinnedWhereOpen k
pinned_ended u k ended away = ((λ some. let none = away.pin in absurd (omega arith)), (λ opened. absurd (true≢false (sym opened ∙ ended.is_open))))

-- nothing is pinned, and none open
pub pinned_none : (k : Known) → k.is_open ≡ false → k.pages.session.pin ≡ 0 → IsPinnedWhereOpen k
pinned_none k closed none = ((λ some. absurd (omega arith)), (λ opened. absurd (true≢false (sym opened ∙ closed))))

module _ (v w : View) (s : ℕ) (is : IsPinnedWhereOpen (knows v s)) where
  pub pinned_still : w ≡ v → IsPinnedWhereOpen (knows w s)
  pinned_still e = subst (λ (x : View). IsPinnedWhereOpen (knows x s)) (sym e) is

  pub begin_pinned : (result : Result ℕ BeginFault) → IfOk result (λ b. Begins v w s b b false) → OnErr result (w ≡ v) → IsPinnedWhereOpen (knows w s)
  begin_pinned (Ok b) ok same = pinned_begun (knows v s) (knows w s) b ok.epoch false ok.begun ok.pin
  begin_pinned (Err fault) ok same = pinned_still same

  pub as_of_pinned : (time : ℕ) (result : Result ℕ BeginFault) → IfOk result (λ b. (b ≡ time) × ((clock : ℕ) × Begins v w s clock time true)) → ((clock : ℕ) → result ≡ Err (begins.Future clock) → IsAhead v w s clock time)
      → ((result ≡ Err begins.Active) ⊎ (result ≡ Err begins.Spent) → w ≡ v) → IsPinnedWhereOpen (knows w s)
  as_of_pinned time (Ok b) ok future same = let x = ok.1.1 in pinned_begun (knows v s) (knows w s) time x.epoch true x.begun x.pin
  as_of_pinned time (Err begins.Active) ok future same = pinned_still (same (inl refl))
  as_of_pinned time (Err begins.Spent) ok future same = pinned_still (same (inr refl))
  as_of_pinned time (Err (begins.Future clock)) ok future same = let x = future clock refl in pinned_same (knows v s) (knows w s) x.same.transaction x.pins is

  pub get_pinned : (key : ℕ) (row : Option (List Cell)) → Gets v w s key row → IsPinnedWhereOpen (knows w s)
  get_pinned key row g = pinned_same (knows v s) (knows w s) g.same.transaction g.pins is

  pub look_pinned : OnlyLooks v w s → IsPinnedWhereOpen (knows w s)
  look_pinned g = pinned_same (knows v s) (knows w s) g.same.transaction g.pins is

  pub write_pinned : (key most : ℕ) (act : Act) (result : Result (Unit {0}) WriteRefusal) → OnOk result (Accepts v w s key most act) → IfErr result (λ refusal. Refuses v w s key most × Cause v w s key act refusal) → IsPinnedWhereOpen (knows w s)
  write_pinned key most act (Ok done) ok err = pinned_same (knows v s) (knows w s) ok.transaction ok.pins is
  write_pinned key most act (Err refusal) ok err = let both : Refuses v w s key most × Cause v w s key act refusal = err in pinned_same (knows v s) (knows w s) both.0.same.transaction both.0.pins is

  pub end_pinned : (outcome : Outcome) → traces.Ends v w s outcome → IsPinnedWhereOpen (knows w s)
  end_pinned (Committed time) e = let x = turning.commits v w s time e.1 e.0 in pinned_ended (knows v s) (knows w s) x.ended x.unpinned
  end_pinned (Ended time) e = let x = turning.ends v w s e.2 in pinned_ended (knows v s) (knows w s) x.ended x.unpinned

  pub tried_pinned : (result : Result Outcome CommitRefusal) → IfOk result (λ outcome. traces.Ends v w s outcome) → (result ≡ Err refusals.Busy → traces.Holds v w s) → ¬ (result ≡ Err refusals.Idle) → IsPinnedWhereOpen (knows w s)
  tried_pinned (Ok outcome) ends held opened = end_pinned outcome ends
  tried_pinned (Err refusals.Busy) ends held opened = let x = turning.finds_held v w s (held refl) in pinned_same (knows v s) (knows w s) x.same.transaction x.pins is
  tried_pinned (Err refusals.Idle) ends held opened = absurd (opened refl)

  pub abort_pinned : (result : Result (Unit {0}) Idle) → OnOk result (((knows v s).is_open ≡ true) × Ends v w s) → OnErr result (((knows v s).is_open ≡ false) × (w ≡ v)) → IsPinnedWhereOpen (knows w s)
  abort_pinned (Ok done) ok err = pinned_ended (knows v s) (knows w s) ok.1.ended ok.1.unpinned
  abort_pinned (Err none) ok err = pinned_still err.1
