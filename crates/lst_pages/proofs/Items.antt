-- Lists of retired frames, and what holds of items: nothing here speaks of a state.
use Rattle.std.proofs.Common.{◌≡◌, ◌≢◌, ℕ, ◌+◌, ◌<◌, ◌≤◌, List, [], ◌∷◌, ◌++◌, refl, sym, ap, ◌∙◌, arith, inl, inr, length}
use mathlib.Core.Logic.{dite}
use native.Mathlib.Decide.{ℕ_discrete}
use Rattle.lst_core_state.specs.declared.pages.Retired.{Retired}
use Rattle.lst_pages.specs.Lists.{Every, Any, First, HasFirst, rest}
use Rattle.lst_pages.specs.Sound.{Off, Distinct, Rise}

module _ {A : Type 0} where
  pub every_map : (P Q : A → Type 0) (xs : List A) → ((x : A) → P x → Q x) → Every P xs → Every Q xs
  every_map P Q [] f a = tt
  every_map P Q (x ∷ xs) f a = (f x a.0, every_map P Q xs f a.1)

  pub every_both : (P Q R : A → Type 0) (xs : List A) → ((x : A) → P x → Q x → R x) → Every P xs → Every Q xs → Every R xs
  every_both P Q R [] f a b = tt
  every_both P Q R (x ∷ xs) f a b = (f x a.0 b.0, every_both P Q R xs f a.1 b.1)

  pub any_map : (P Q : A → Type 0) (xs : List A) → ((x : A) → P x → Q x) → Any P xs → Any Q xs
  any_map P Q [] f a = a
  any_map P Q (x ∷ xs) f (inl p) = inl (f x p)
  any_map P Q (x ∷ xs) f (inr p) = inr (any_map P Q xs f p)

  -- what holds of one and of all
  pub any_every : (P Q : A → Type 0) (B : Type 0) (xs : List A) → ((x : A) → P x → Q x → B) → Any P xs → Every Q xs → B
  any_every P Q B [] f none b = absurd none
  any_every P Q B (x ∷ xs) f (inl p) b = f x p b.0
  any_every P Q B (x ∷ xs) f (inr p) b = any_every P Q B xs f p b.1

  pub every_snoc : (P : A → Type 0) (xs : List A) (y : A) → Every P xs → P y → Every P (xs ++ y ∷ [])
  every_snoc P [] y a p = (p, tt)
  every_snoc P (x ∷ xs) y a p = (a.0, every_snoc P xs y a.1 p)

  pub any_front : (P : A → Type 0) (xs : List A) (y : A) → Any P xs → Any P (xs ++ y ∷ [])
  any_front P [] y none = absurd none
  any_front P (x ∷ xs) y (inl p) = inl p
  any_front P (x ∷ xs) y (inr p) = inr (any_front P xs y p)

  pub any_last : (P : A → Type 0) (xs : List A) (y : A) → P y → Any P (xs ++ y ∷ [])
  any_last P [] y p = inl p
  any_last P (x ∷ xs) y p = inr (any_last P xs y p)

  pub first_each : (P : A → Type 0) (xs : List A) → ((x : A) → P x) → First P xs
  first_each P [] f = tt
  first_each P (x ∷ xs) f = f x

  pub first_both : (P Q R : A → Type 0) (xs : List A) → ((x : A) → P x → Q x → R x) → First P xs → Every Q xs → First R xs
  first_both P Q R [] f a b = tt
  first_both P Q R (x ∷ xs) f a b = f x a b.0

  pub has_first_snoc : (P : A → Type 0) (xs : List A) (y : A) → HasFirst P xs → HasFirst P (xs ++ y ∷ [])
  has_first_snoc P [] y none = absurd none
  has_first_snoc P (x ∷ xs) y p = p

pub distinct_snoc : (rs : List Retired) (r : Retired) → Distinct rs → Off r.frame rs → Distinct (rs ++ r ∷ [])
distinct_snoc [] r a off = (tt, tt)
distinct_snoc (q ∷ rs) r a off = (every_snoc (λ (x : Retired). x.frame ≢ q.frame) rs r a.0 (λ e. off.0 (sym e)), distinct_snoc rs r a.1 off.1)

-- the next retirement
pub rise_next : (rs : List Retired) (e : ℕ) (r : Retired) → r.epoch ≡ e + 1 → Rise rs e → Rise (rs ++ r ∷ []) (e + 1)
rise_next [] e r next rise = next
rise_next (q ∷ []) e r next rise = (omega (arith, next, rise), (λ _. next ∙ ap (λ (n : ℕ). n + 1) (sym rise)), next)
rise_next (q ∷ p ∷ rs) e r next rise = (rise.0, rise.1, rise_next (p ∷ rs) e r next rise.2)

pub rise_rest : (rs : List Retired) (e : ℕ) → Rise rs e → Rise (rest rs) e
rise_rest [] e rise = tt
rise_rest (q ∷ []) e rise = tt
rise_rest (q ∷ p ∷ rs) e rise = rise.2

-- epochs above 0 are consecutive
pub rise_long : (rs : List Retired) (e first : ℕ) → First (λ r. r.epoch ≡ first) rs → Rise rs e → 0 < first → 0 < length rs → e + 1 ≡ first + length rs
rise_long [] e first is rise some one = absurd (omega arith)
rise_long (r ∷ []) e first is rise some one = omega (arith, rise, is)
rise_long (r ∷ q ∷ rs) e first is rise some one = let up = rise.0 in let next : q.epoch ≡ r.epoch + 1 = rise.1 (omega (arith, is)) in let long = rise_long (q ∷ rs) e q.epoch refl rise.2 (omega (arith, is)) (omega arith) in omega (arith, is)

-- epochs rise by at most one from each to the next
pub rise_short : (r : Retired) (rs : List Retired) (e : ℕ) → Rise (r ∷ rs) e → e ≤ r.epoch + length rs
rise_short r [] e rise = omega (arith, rise)
rise_short r (q ∷ rs) e rise = let up = rise.0 in let more = rise_short q rs e rise.2 in dite (ℕ_discrete q.epoch 0) (λ none. omega arith) (λ some. let next : q.epoch ≡ r.epoch + 1 = rise.1 (omega arith) in omega arith)
