-- What a call answers is one thing and no other.
use Rattle.std.proofs.Common.{◌≡◌, ◌≢◌, ℕ, ◌↔◌, ◌+◌, ◌<◌, ◌≤◌, List, Bool, true, false, length, refl, sym, subst, ap, ◌∙◌, arith, slice_index_or, cond, eqb, ne_eqb}
use Rattle.std.specs.Prelude.{Result, Ok, Err}
use Rattle.lst_layout.specs.declared.limits.Limits.{Limits}
use Rattle.lst_core_state.specs.declared.known.Known.{Known}
use Rattle.lst_layout.specs.declared.place.Place.TheVariants.{CommitWord}
use Rattle.lst_core_state.specs.declared.events.Event.TheVariants.{Take}
use Rattle.lst_core_state.specs.Step.{took, held_off}
use Rattle.lst_rule.specs.declared.view.View.{View}
use Rattle.lst_rule.specs.Rule.{knows, hosts}
use Rattle.lst_rule.specs.Learned.{Possible, Learns, Kept, Made}
use Rattle.lst_rule.proofs.Knowing.{knows_own}
use Rattle.lst_rule.specs.Stores.{Clocked, Tried}
use Rattle.lst_txn.specs.declared.begins.BeginFault.{BeginFault}
use Rattle.lst_txn.specs.declared.begins.BeginFault.TheVariants.{Active, Spent, Future}
use Rattle.lst_txn.specs.declared.ends.TurnFault.{TurnFault}
use Rattle.lst_txn.specs.declared.ends.TurnFault.TheVariants.{Idle, Busy}

pub neither : (P Q : Type 0) → ¬ P → ¬ Q → P ↔ Q
neither P Q p q = (λ h. absurd (p h), λ h. absurd (q h))

pub not_false : (o : Bool) → o ≡ true → ¬ (o ≡ false)
not_false o is same = cc

pub not_true : (o : Bool) → o ≡ false → ¬ (o ≡ true)
not_true o is same = cc

pub ok_err : (A E : Type 0) (a : A) (e : E) → ¬ (Ok a ≡ Err e)
ok_err A E a e same = cc

pub active_future : (r : Result ℕ BeginFault) (clock : ℕ) → r ≡ Err Active → ¬ (r ≡ Err (Future clock))
active_future r clock is same = cc

pub spent_future : (r : Result ℕ BeginFault) (clock : ℕ) → r ≡ Err Spent → ¬ (r ≡ Err (Future clock))
spent_future r clock is same = cc

pub future_is : (r : Result ℕ BeginFault) (x y : ℕ) → r ≡ Err (Future x) → r ≡ Err (Future y) → x ≡ y
future_is r x y is same = cc

pub idle_busy : (A : Type 0) (r : Result A TurnFault) → r ≡ Err Idle → ¬ (r ≡ Err Busy)
idle_busy A r is same = cc

pub hosts_on : (v w : View) (s t : ℕ) (k : Known) → Learns v w s k → hosts v t ≡ true → hosts w t ≡ true
hosts_on v w s t k l h = ap (λ (bs : List Bool). slice_index_or bs t false) l.hosted ∙ h

pub own_on : (v w : View) (s t : ℕ) (k : Known) → Learns v w s k → t < v.limits.sessions → t < w.limits.sessions
own_on v w s t k l h = subst (λ (m : Limits). t < m.sessions) (sym l.limits) h

pub few_begun : (v : View) (s : ℕ) → Possible v → hosts v s ≡ true → s < v.limits.sessions → (knows v s).number ≤ v.limits.txns
few_begun v s p host low = subst (λ (k : Known). k.number ≤ v.limits.txns) (sym (knows_own v p.words p.known p.merger p.allowed s host (λ e. omega arith))) (p.allowed.sound.each s low).few

-- after a load of the clock nothing else has changed than what the session has seen, which is as long as the clock says
pub seen_until : (v u : View) (s x : ℕ) → Clocked v u s x → length (knows u s).seen ≡ x
seen_until v u s x c = ap (λ (k : Known). length k.seen) c.view.now ∙ c.clock

pub closed_on : (v u : View) (s x : ℕ) → Clocked v u s x → (knows v s).is_open ≡ false → (knows u s).is_open ≡ false
closed_on v u s x c closed = ap (λ (k : Known). k.is_open) c.view.now ∙ closed

pub more_on : (v u : View) (s x : ℕ) → Clocked v u s x → (knows v s).number ≢ v.limits.txns → (knows u s).number ≢ u.limits.txns
more_on v u s x c more same = more (sym (ap (λ (k : Known). k.number) c.view.now) ∙ (same ∙ ap (λ (m : Limits). m.txns) c.view.limits))

-- ---- what may_begin refuses, its caller refuses

fault_is : (A : Type 0) (r : Result A BeginFault) (f g : BeginFault) → r ≡ Err f → r ≡ Err g → f ≡ g
fault_is A r f g is same = cc

pub refused_there : (f g : BeginFault) → ◌≡◌ {A = Result ℕ BeginFault} (Err f) (Err g) → ◌≡◌ {A = Result (Unit {0}) BeginFault} (Err f) (Err g)
refused_there f g same = ap (λ (x : BeginFault). Err x) (fault_is ℕ (Err f) f g refl same)

pub refused_here : (f g : BeginFault) → ◌≡◌ {A = Result (Unit {0}) BeginFault} (Err f) (Err g) → ◌≡◌ {A = Result ℕ BeginFault} (Err f) (Err g)
refused_here f g same = ap (λ (x : BeginFault). Err x) (fault_is (Unit {0}) (Err f) f g refl same)

pub refused_as : (f g : BeginFault) (P : Type 0) → (◌≡◌ {A = Result (Unit {0}) BeginFault} (Err f) (Err g)) ↔ P → (◌≡◌ {A = Result ℕ BeginFault} (Err f) (Err g)) ↔ P
refused_as f g P h = (λ e. h.0 (refused_there f g e), λ p. refused_here f g (h.1 p))

-- ---- a try to take the turn

pub tried_busy : (v w : View) (s x : ℕ) → Tried v w s x → x ≢ 0 → Learns v w s (held_off (knows v s)) × Kept v w
tried_busy v w s x t more = (subst (λ (b : Bool). Learns v w s (cond b (took (knows v s)) (held_off (knows v s)))) (ne_eqb x 0 more) t.view, t.kept (omega (arith, more)))

pub tried_taken : (v w : View) (s x : ℕ) → Tried v w s x → x ≡ 0 → Made v w (Take s) CommitWord (s + 1)
tried_taken v w s x t none = subst (λ (n : ℕ). Made v w (Take s) CommitWord (cond (eqb n 0) (s + 1) n)) none t.met.made
