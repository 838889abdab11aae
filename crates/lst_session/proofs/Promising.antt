-- What each call promises of what its session has seen and done, from what led to it.
use Rattle.std.proofs.Common.{◌≡◌, ℕ, ◌<◌, List, [], true, false, Option, Result, Ok, Err, IfOk, IfErr, OnOk, OnErr, refl, ap}
use Rattle.std.specs.Prelude.{◌↔◌, IsOk}
use Rattle.lst_model.specs.declared.acts.Act.{Act}
use Rattle.lst_model.specs.Cells.{Cell}
use Rattle.lst_rule.specs.declared.view.View.{View}
use Rattle.lst_rule.specs.Rule.{knows, hosts}
use Rattle.lst_rule.specs.Learned.{Possible}
use Rattle.lst_rule.specs.Seats.{Sitting}
use Rattle.lst_txn.specs.declared.ends.Idle.{Idle}
use Rattle.lst_session.specs.declared.kinds.WriteRefusal.{WriteRefusal}
use Rattle.lst_session.specs.declared.kinds.Outcome.{Outcome}
use Rattle.lst_session.specs.declared.kinds.Outcome.TheVariants.{Committed, Ended}
use Rattle.lst_session.specs.Traces as traces
use Rattle.lst_session.specs.Traces.{is_put, Reads, Inserts, Changes}
use Rattle.lst_refinement.specs.Crews.{IsIdle}
use Rattle.lst_session.specs.Calls.{Gets, Accepts, Refuses, Cause, Commits, Ends}
use Rattle.lst_session.proofs.Growing.{begun_early}
use Rattle.lst_session.proofs.Answering as answering
use Rattle.lst_session.proofs.Turning as turning
use Rattle.lst_session.proofs.Ending.{not_true}

-- ---- ends

same_outcome : (a b : Outcome) → ◌≡◌ {A = Result Outcome Idle} (Ok a) (Ok b) → a ≡ b
same_outcome a b e = cc

module _ (v w : View) (s : ℕ) (outcome : Outcome) (ends : traces.Ends v w s outcome) where
  pub committed : (time : ℕ) → ◌≡◌ {A = Result Outcome Idle} (Ok outcome) (Ok (Committed time)) → Commits v w s time
  committed time is = turning.committed v w s (Ok outcome) ends time (ap Ok (same_outcome outcome (Committed time) is))

  pub ended : (time : ℕ) → ◌≡◌ {A = Result Outcome Idle} (Ok outcome) (Ok (Ended time)) → (time ≡ (knows v s).begin) × ((knows v s).own ≡ []) × Ends v w s
  ended time is = turning.ended v w s (Ok outcome) ends time (ap Ok (same_outcome outcome (Ended time) is))

module _ (m n : Sitting) (s : ℕ) where
  pub aborted : (result : Result (Unit {0}) Idle) → IfOk result (λ _. traces.Closes m.view n.view s) → (IsOk result ↔ ((knows m.view s).is_open ≡ true))
      → OnOk result (((knows m.view s).is_open ≡ true) × Ends m.view n.view s)
  aborted (Ok done) closes is = (is.0 refl, turning.ends m.view n.view s closes)
  aborted (Err none) closes is = tt

  pub not_aborted : (result : Result (Unit {0}) Idle) → (IsOk result ↔ ((knows m.view s).is_open ≡ true)) → OnErr result (n ≡ m) → OnErr result (((knows m.view s).is_open ≡ false) × (n.view ≡ m.view))
  not_aborted (Ok done) is same = tt
  not_aborted (Err none) is same = (not_true (knows m.view s).is_open (λ e. let h = is.1 e in cc), ap (λ (seat : Sitting). seat.view) same)

-- ---- reads and writes

module _ (v w : View) (s key : ℕ) (host : hosts v s ≡ true) (p : Possible v) (low : s < v.limits.sessions) where
  pub gets : (row : Option (List Cell)) → (knows v s).is_open ≡ true → Reads v w s key row → Gets v w s key row
  gets row is_open reads = answering.gets v w s key row low (begun_early v s p host is_open) is_open reads

  pub still_idle : (row : Option (List Cell)) → (knows v s).is_open ≡ true → Reads v w s key row → IsIdle (knows v s) → IsIdle (knows w s)
  still_idle row is_open reads = answering.gets_idle v w s key row low (begun_early v s p host is_open) is_open reads

  module _ (act : Act) (result : Result (Unit {0}) WriteRefusal) where
    pub inserted : Inserts v w s key act result → OnOk result (Accepts v w s key 1 act)
    inserted is = answering.inserted v w s key act p host low result is

    pub not_inserted : is_put act ≡ true → Inserts v w s key act result → IfErr result (λ refusal. Refuses v w s key 1 × Cause v w s key act refusal)
    not_inserted put is = answering.not_inserted v w s key act p host low put result is

    pub changed : Changes v w s key act result → OnOk result (Accepts v w s key 0 act)
    changed is = answering.changed v w s key act p host low result is

    pub not_changed : is_put act ≡ false → Changes v w s key act result → IfErr result (λ refusal. Refuses v w s key 0 × Cause v w s key act refusal)
    not_changed put is = answering.not_changed v w s key act p host low put result is

    pub inserted_idle : Inserts v w s key act result → IsIdle (knows v s) → IsIdle (knows w s)
    inserted_idle is = answering.inserted_idle v w s key act p host low result is

    pub changed_idle : Changes v w s key act result → IsIdle (knows v s) → IsIdle (knows w s)
    changed_idle is = answering.changed_idle v w s key act p host low result is
