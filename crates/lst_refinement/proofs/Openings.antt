-- The state that an opening store tells, and what it takes of the sessions.
use Rattle.std.proofs.Common.{◌≡◌, ◌≢◌, ℕ, ◌<◌, Bool, true, false, cond, nat_lt, refl, ap, ◌∙◌, sym, ltb-true, lt-ltb, eq-eqb, ne_eqb}
use mathlib.Core.Logic.{dite}
use native.Mathlib.Decide.{ℕ_discrete}
use Rattle.std.specs.Prelude.{Some, None}
use Rattle.lst_layout.specs.Words.{opening}
use Rattle.lst_machine.specs.State.{Store, opening_store}
use Rattle.lst_machine.specs.Writes.{put, put_in}
use Rattle.lst_core_state.specs.declared.known.Known.{Known}
use Rattle.lst_core_state.specs.State.{history, newcomer}
use Rattle.lst_refinement.specs.Telling.{opened_of, told_store}
use Rattle.lst_refinement.specs.Effects.{SameTransactions}
use Rattle.lst_refinement.specs.Laws.{OpeningIsTold, TransactionsAreTold}

-- a state is known by its parts
pub store_same : (a b : Store) → a.history ≡ b.history → a.placed ≡ b.placed → ((r : ℕ) → a.accepted r ≡ b.accepted r) → ((s : ℕ) → a.begins s ≡ b.begins s) → ((s : ℕ) → a.opened s ≡ b.opened s) → ((s n : ℕ) → a.closed s n ≡ b.closed s n) → a ≡ b
store_same a b history placed accepted begins opened closed = λ i. record {
  history = history i;
  placed = placed i;
  accepted = λ r. accepted r i;
  begins = λ s. begins s i;
  opened = λ s. opened s i;
  closed = λ s n. closed s n i;
}

-- ---- what is said of the numbers below another, and functions changed at one place

module _ {A : Type 0} where
  pub below_same : (n s : ℕ) (x y d : A) → (s < n → x ≡ y) → cond (nat_lt s n) x d ≡ cond (nat_lt s n) y d
  below_same n s x y d same = at_test (nat_lt s n) refl
    where
      at_test : (b : Bool) → nat_lt s n ≡ b → cond b x d ≡ cond b y d
      at_test true is = same (ltb-true s n is)
      at_test false is = refl

  pub below_is : (n s : ℕ) (x d : A) → s < n → cond (nat_lt s n) x d ≡ x
  below_is n s x d low = ap (λ (b : Bool). cond b x d) (lt-ltb s n low)

  pub put_is : (f g : ℕ → A) (k : ℕ) (new : A) → g k ≡ new → ((j : ℕ) → j ≢ k → g j ≡ f j) → (j : ℕ) → g j ≡ put f k new j
  put_is f g k new here else j = dite (ℕ_discrete j k)
      (λ e. ap g e ∙ here ∙ sym (ap (λ (b : Bool). cond b new (f j)) (eq-eqb j k e)))
      (λ ne. else j ne ∙ sym (ap (λ (b : Bool). cond b new (f j)) (ne_eqb j k ne)))

  pub put_in_is : (f g : ℕ → ℕ → A) (k m : ℕ) (new : A) → g k m ≡ new → ((j i : ℕ) → (j ≡ k → i ≢ m) → g j i ≡ f j i) → (j i : ℕ) → g j i ≡ put_in f k m new j i
  put_in_is f g k m new here else j i = dite (ℕ_discrete j k)
      (λ e. ap (λ (x : ℕ). g x i) e ∙ put_is (f k) (g k) m new here (λ x ne. else k x (λ _. ne)) i ∙ sym (ap (λ (b : Bool). cond b (put (f k) m new) (f j) i) (eq-eqb j k e)))
      (λ ne. else j i (λ e. absurd (ne e)) ∙ sym (ap (λ (b : Bool). cond b (put (f k) m new) (f j) i) (ne_eqb j k ne)))

-- ---- the laws

pub nothing : {A : Type 0} (b : Bool) (d : A) → cond b d d ≡ d
nothing true d = refl
nothing false d = refl

pub opening_is_told : OpeningIsTold
unfolding history
opening_is_told l valid = store_same (told_store l (opening l) (λ s. newcomer l)) opening_store refl refl (λ r. refl) (λ s. nothing (nat_lt s l.sessions) 0) (λ s. nothing (nat_lt s l.sessions) None) (λ s n. refl)

pub opened_same : (u k : Known) → SameTransactions u k → opened_of k ≡ opened_of u
opened_same u k same = λ i. cond (same.is_open i) (Some (record { begin = same.begin i; read_only = same.read_only i })) None

pub transactions_are_told : TransactionsAreTold
transactions_are_told l w u k same = store_same (told_store l w k) (told_store l w u) refl refl (λ r. refl)
    (λ s. below_same l.sessions s (k s).number (u s).number 0 (λ low. (same s low).number))
    (λ s. below_same l.sessions s (opened_of (k s)) (opened_of (u s)) None (λ low. opened_same (u s) (k s) (same s low)))
    (λ s n. refl)
