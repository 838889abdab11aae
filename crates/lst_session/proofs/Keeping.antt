-- Between two calls a crew has nothing in hand, whatever its calls answer.
use Rattle.std.proofs.Common.{◌≡◌, ◌⊎◌, ℕ, ◌<◌, List, Bool, false, true, Result, Ok, Err, IfOk, IfErr, OnOk, OnErr, refl, sym, subst, ap, ◌∙◌, arith, inl, inr, slice_index_or}
use mathlib.Core.Logic.{dite}
use native.Mathlib.Decide.{ℕ_discrete}
use Rattle.lst_layout.specs.declared.limits.Limits.{Limits}
use Rattle.lst_model.specs.declared.acts.Act.{Act}
use Rattle.lst_core_state.specs.declared.known.Hold.{Hold}
use Rattle.lst_rule.specs.declared.view.View.{View}
use Rattle.lst_rule.specs.Rule.{knows}
use Rattle.lst_core_state.specs.declared.pages.MergerFrames.{MergerFrames}
use Rattle.lst_core_state.specs.declared.pages.Retired.{Retired}
use Rattle.lst_rule.specs.PageSteps.{stock_of}
use Rattle.lst_rule.specs.Spares.{AreSpares}
use Rattle.lst_rule.specs.declared.store.Store.{Store}
use Rattle.lst_rule.specs.Seats.{Sitting}
use Rattle.lst_rule.specs.Stores.{IsSeatOf}
use Rattle.lst_rule.proofs.Learning.{learns_same}
use Rattle.lst_txn.specs.declared.begins.BeginFault.{BeginFault}
use Rattle.lst_txn.specs.declared.begins.BeginFault.TheVariants as begins
use Rattle.lst_txn.specs.declared.ends.Idle.{Idle}
use Rattle.lst_session.specs.declared.kinds.WriteRefusal.{WriteRefusal}
use Rattle.lst_session.specs.declared.kinds.WriteRefusal.TheVariants as writes
use Rattle.lst_session.specs.declared.kinds.Outcome.{Outcome}
use Rattle.lst_session.specs.declared.kinds.Outcome.TheVariants.{Committed, Ended}
use Rattle.lst_session.specs.Traces as traces
use Rattle.lst_refinement.specs.Crews.{IsIdle, IsPinnedWhereOpen}
use Rattle.lst_session.specs.declared.crew.Crew.{Crew}
use Rattle.lst_session.specs.Calls.{Called, Begins, IsAhead, Accepts, Refuses, Cause, FindsLatch, Ends}
use Rattle.lst_session.specs.Crews.{IsCrewOf}
use Rattle.lst_session.proofs.Growing.{stock_stays, called, same_extends, same_facts, same_finds}
use Rattle.lst_session.proofs.Turning as turning

-- ---- the crew after a call

-- the merger's spare frames are the same where its stock is
pub spares_still : (v w : View) (spares : List Retired) → stock_of w ≡ stock_of v → AreSpares v spares → AreSpares w spares
spares_still v w spares e are = record { retired = are.retired ∙ ap (λ (m : MergerFrames). m.retired) (sym e); idle = ap (λ (m : MergerFrames). m.waiting) e ∙ are.idle }

module _ (store : Store) (crew : Crew) (n : Sitting) (s : ℕ) (of : IsCrewOf store crew) (seat : IsSeatOf store n) (here : s < crew.seat.view.limits.sessions) where
  -- of its session alone something was learnt, and that one has nothing in hand, and is pinned while it has a transaction open
  pub crew_on : Called crew.seat.view n.view s → IsIdle (knows n.view s) → IsPinnedWhereOpen (knows n.view s) → IsCrewOf store (record crew { seat = n })
  crew_on is idle pinned = record {
    seat_of = seat;
    hosted = λ t low. ap (λ (hs : List Bool). slice_index_or hs t false) is.learns.hosted ∙ of.hosted t (subst (λ (l : Limits). t < l.sessions) is.learns.limits low);
    merger = (λ i. slice_index_or (is.learns.hosted i) (is.learns.limits i).sessions false) ∙ of.merger;
    idle = λ t low. dite (ℕ_discrete t s)
        (λ e. subst (λ (x : ℕ). IsIdle (knows n.view x)) (sym e) idle)
        (λ ne. subst IsIdle (sym (is.learns.others t ne)) (of.idle t (subst (λ (l : Limits). t < l.sessions) is.learns.limits low)));
    pinned = λ t low. dite (ℕ_discrete t s)
        (λ e. subst (λ (x : ℕ). IsPinnedWhereOpen (knows n.view x)) (sym e) pinned)
        (λ ne. subst IsPinnedWhereOpen (sym (is.learns.others t ne)) (of.pinned t (subst (λ (l : Limits). t < l.sessions) is.learns.limits low)));
    spares = spares_still crew.seat.view n.view crew.spares.items (stock_stays crew.seat.view n.view s (knows n.view s) is.learns here) of.spares;
  }

-- a session that a crew hosts finds no latch
pub never_latched : (store : Store) (crew : Crew) (w : View) (s key most : ℕ) (act : Act) (result : Result (Unit {0}) WriteRefusal) → IsCrewOf store crew
    → IfErr result (λ refusal. Refuses crew.seat.view w s key most × Cause crew.seat.view w s key act refusal) → ¬ (result ≡ Err writes.Latched)
never_latched store crew w s key most act result of err is =
    let both = subst (λ (r : Result (Unit {0}) WriteRefusal). IfErr r (λ refusal. Refuses crew.seat.view w s key most × Cause crew.seat.view w s key act refusal)) is err in
    let cause : Cause crew.seat.view w s key act writes.Latched = both.1 in
    let found : FindsLatch crew.seat.view w s key = cause.1 in
    found.other (λ t low. (of.hosted t low, λ e. let none = ap (λ (h : Hold). h.latch) (of.idle t low).hold in omega arith))

-- nor the commit word held
pub never_held : (store : Store) (crew : Crew) (w : View) (s : ℕ) → IsCrewOf store crew → ¬ traces.Holds crew.seat.view w s
never_held store crew w s of held = held.other (λ t low. (of.hosted t low, (of.idle t low).turn))

-- ---- what was learnt in a call

module _ (v w : View) (s : ℕ) where
  pub called_same : w ≡ v → Called v w s
  called_same is = subst (λ (u : View). Called v u s) (sym is)
      (called v v s (knows v s) (learns_same v s) record { seen = same_extends (knows v s).seen; facts = same_facts (knows v s).facts; finds = same_finds (knows v s).finds })

  pub begin_called : (result : Result ℕ BeginFault) → IfOk result (λ b. Begins v w s b b false) → OnErr result (w ≡ v) → Called v w s
  begin_called (Ok b) ok same = ok.called
  begin_called (Err fault) ok same = called_same same

  pub as_of_called : (time : ℕ) (result : Result ℕ BeginFault) → IfOk result (λ b. (b ≡ time) × ((clock : ℕ) × Begins v w s clock time true)) → ((clock : ℕ) → result ≡ Err (begins.Future clock) → IsAhead v w s clock time)
      → ((result ≡ Err begins.Active) ⊎ (result ≡ Err begins.Spent) → w ≡ v) → Called v w s
  as_of_called time (Ok b) ok future same = ok.1.1.called
  as_of_called time (Err begins.Active) ok future same = called_same (same (inl refl))
  as_of_called time (Err begins.Spent) ok future same = called_same (same (inr refl))
  as_of_called time (Err (begins.Future clock)) ok future same = (future clock refl).called

  pub write_called : (key most : ℕ) (act : Act) (result : Result (Unit {0}) WriteRefusal) → OnOk result (Accepts v w s key most act) → IfErr result (λ refusal. Refuses v w s key most × Cause v w s key act refusal) → Called v w s
  write_called key most act (Ok done) ok err = ok.called
  write_called key most act (Err refusal) ok err = let both : Refuses v w s key most × Cause v w s key act refusal = err in both.0.called

  pub end_called : (outcome : Outcome) → traces.Ends v w s outcome → Called v w s
  end_called (Committed time) e = (turning.commits v w s time e.1 e.0).called
  end_called (Ended time) e = (turning.ends v w s e.2).called

  pub end_idle : (outcome : Outcome) → traces.Ends v w s outcome → IsIdle (knows v s) → IsIdle (knows w s)
  end_idle (Committed time) e idle = turning.commits_idle v w s time e.1 idle
  end_idle (Ended time) e idle = turning.ends_idle v w s e.2 idle

  pub abort_called : (result : Result (Unit {0}) Idle) → OnOk result (((knows v s).is_open ≡ true) × Ends v w s) → OnErr result (((knows v s).is_open ≡ false) × (w ≡ v)) → Called v w s
  abort_called (Ok done) ok err = ok.1.called
  abort_called (Err none) ok err = called_same err.1

pub abort_idle : (m n : Sitting) (s : ℕ) (result : Result (Unit {0}) Idle) → IfOk result (λ _. traces.Closes m.view n.view s) → OnErr result (n ≡ m) → IsIdle (knows m.view s) → IsIdle (knows n.view s)
abort_idle m n s (Ok done) closes same idle = turning.ends_idle m.view n.view s closes idle
abort_idle m n s (Err none) closes same idle = subst (λ (seat : Sitting). IsIdle (knows seat.view s)) (sym same) idle
