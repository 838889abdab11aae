-- What the parts of a call tell, handed on.
use Rattle.std.proofs.Common.{◌≡◌, ◌≢◌, ℕ, zero, suc, ◌<◌, Bool, true, false, Result, Err, length, refl, sym, ap, ◌∙◌, arith, nat_lt, lt-ltb, true≢false}
use Rattle.lst_layout.specs.declared.limits.Limits.{Limits}
use Rattle.lst_core_state.specs.declared.known.Known.{Known}
use Rattle.lst_rule.specs.declared.view.View.{View}
use Rattle.lst_rule.specs.Rule.{knows}
use Rattle.lst_retire.specs.Pins.{Pins}
use Rattle.lst_refinement.specs.Crews.{IsIdle, IsPinnedWhereOpen}
use Rattle.lst_txn.specs.Transactions.{IsFree}
use Rattle.lst_txn.proofs.Refusing.{not_false}
use Rattle.lst_txn.specs.declared.ends.TurnFault.{TurnFault}
use Rattle.lst_txn.specs.declared.ends.TurnFault.TheVariants as turns
use Rattle.lst_session.specs.declared.kinds.CommitRefusal.{CommitRefusal}
use Rattle.lst_session.specs.declared.kinds.CommitRefusal.TheVariants as refusals

-- ---- an answer is one thing and no other

pub busy_idle : (A : Type 0) (r : Result A CommitRefusal) → r ≡ Err refusals.Busy → ¬ (r ≡ Err refusals.Idle)
busy_idle A r is same = cc

pub held_idle : (A : Type 0) (r : Result A TurnFault) → r ≡ Err turns.Busy → ¬ (r ≡ Err turns.Idle)
held_idle A r is same = cc

pub opened_by : (o : Bool) → ¬ (o ≡ false) → o ≡ true
opened_by true some = refl
opened_by false some = absurd (some refl)

-- ---- what a session is

pub idle_free : (k : Known) → IsIdle k → IsFree k
idle_free k idle = (idle.turn, ap (λ h. h.latch) idle.hold)

-- a session with no open transaction has no pin
pub unpinned : (k : Known) → IsPinnedWhereOpen k → k.is_open ≡ false → k.pages.session.pin ≡ 0
unpinned k pinned closed = no_pin k.pages.session.pin (λ h. not_false k.is_open (pinned.0 h) closed)
  where
    no_pin : (n : ℕ) → ¬ (0 < n) → n ≡ 0
    no_pin n none = omega (arith, none)

-- once it is pinned, it has seen no more, and no transaction of it has begun
pub pinned_closed : (v w : View) (s : ℕ) → Pins v w s → (knows v s).is_open ≡ false → (knows w s).is_open ≡ false
pinned_closed v w s pins closed = ap (λ (k : Known). k.is_open) pins.view.now ∙ closed

pub pinned_more : (v w : View) (s : ℕ) → Pins v w s → (knows v s).number ≢ v.limits.txns → (knows w s).number ≢ w.limits.txns
pinned_more v w s pins more same = more (sym (ap (λ (k : Known). k.number) pins.view.now) ∙ (same ∙ ap (λ (l : Limits). l.txns) pins.view.limits))

pub pinned_seen : (v w : View) (s : ℕ) → Pins v w s → length (knows w s).seen ≡ length (knows v s).seen
pinned_seen v w s pins = ap (λ (k : Known). length k.seen) pins.view.now

pub some_writes : (b : Bool) (n : ℕ) → b ≡ nat_lt 0 n → b ≡ true → 0 < n
some_writes b zero is same = absurd cc
some_writes b (suc n) is same = omega arith

pub no_writes : (b : Bool) (n : ℕ) → b ≡ nat_lt 0 n → b ≡ false → n ≡ 0
no_writes b zero is same = refl
no_writes b (suc n) is same = absurd (true≢false (sym (lt-ltb 0 (suc n) (omega arith)) ∙ (sym is ∙ same)))
