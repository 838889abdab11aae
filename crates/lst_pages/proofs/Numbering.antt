-- Settled tails by number, and by what steps have found of them.
use Rattle.std.proofs.Common.{◌≡◌, ℕ, zero, suc, ◌+◌, ◌-◌, ◌*◌, ◌/◌, ◌%◌, ◌<◌, ◌≤◌, [], ◌∷◌, Bool, true, false, cond, refl, sym, subst, ap, ◌∙◌, arith, length}
use mathlib.Core.Logic.{dite}
use native.Mathlib.Decide.{ℕ_discrete, dec_lt}
use Rattle.lst_core_state.specs.State.{state_at, entry, name_of}
use Rattle.lst_pages.specs.declared.tails.PageTail.{PageTail}
use Rattle.lst_pages.specs.Chains.{Told}
use Rattle.lst_pages.specs.Settled.{tail_by, tail_in, is_settled, front, settled_tails}
use Rattle.lst_pages.specs.StateLaws.{SettledAreNumbered, IsSettledAs, FactsSettle, CommitsSettle}
use Rattle.lst_pages.proofs.Growing.{settled_so}

-- ---- numbers

module _ (so : ℕ → Bool) (item : ℕ → PageTail) where
  -- each of them is so
  front_is : (first n k t : ℕ) → t ≡ first + k → k < length (front so item first n) → so t ≡ true
  front_is first zero k t is low = absurd (omega arith)
  front_is first (suc n) k t is low = go (so first) refl low (λ j u is low. front_is (suc first) n j u is low)
    where
      go : (b : Bool) → so first ≡ b → k < length (cond b (item first ∷ front so item (suc first) n) []) → ((j u : ℕ) → u ≡ suc first + j → j < length (front so item (suc first) n) → so u ≡ true) → so t ≡ true
      go false e low rest = absurd (omega arith)
      go true e low rest = dite (ℕ_discrete k 0)
          (λ z. let f : t ≡ first = omega arith in ap so f ∙ e)
          (λ some. rest (k - 1) t (omega arith) (omega arith))

  -- they are at most n
  front_low : (first n : ℕ) → length (front so item first n) ≤ n
  front_low first zero = omega arith
  front_low first (suc n) = go (so first) (front_low (suc first) n)
    where
      go : (b : Bool) → length (front so item (suc first) n) ≤ n → length (cond b (item first ∷ front so item (suc first) n) []) ≤ suc n
      go false low = omega arith
      go true low = omega arith

  -- where the first m are so, there are at least m
  front_high : (first n m : ℕ) → m ≤ n → ((k : ℕ) → first ≤ k → k < first + m → so k ≡ true) → m ≤ length (front so item first n)
  front_high first n zero low each = omega arith
  front_high first zero (suc m) low each = absurd (omega arith)
  front_high first (suc n) (suc m) low each = let more = front_high (suc first) n m (omega arith) (λ k above below. each k (omega arith) (omega arith)) in
      subst (λ (b : Bool). suc m ≤ length (cond b (item first ∷ front so item (suc first) n) [])) (sym (each first (omega arith) (omega arith))) (omega arith)

  -- and told by their numbers
  front_told : (base n k first : ℕ) → first ≡ base + suc k → Told (λ m. item (base + m)) k (front so item first n)
  front_told base zero k first is = tt
  front_told base (suc n) k first is = go (so first) (front_told base n (suc k) (suc first) (omega arith))
    where
      go : (b : Bool) → Told (λ m. item (base + m)) (suc k) (front so item (suc first) n) → Told (λ m. item (base + m)) k (cond b (item first ∷ front so item (suc first) n) [])
      go false told = tt
      go true told = (ap item is, told)

pub settled_are_numbered : SettledAreNumbered
unfolding settled_tails
settled_are_numbered l w range = let base : ℕ = range * l.tails in record {
  few = front_low (is_settled w) (tail_in l w) (base + 1) l.tails;
  told = front_told (is_settled w) (tail_in l w) base l.tails 0 (base + 1) (omega arith);
  each = λ n some low. front_is (is_settled w) (tail_in l w) (base + 1) l.tails (n - 1) (base + n) (omega arith) (omega arith);
  more = λ p n few low rest. front_high (is_settled w) (tail_in l w) (base + 1) l.tails n low (λ k above below. dite (dec_lt (base + p) k)
      (λ high. subst (λ (t : ℕ). is_settled w t ≡ true) (let e : base + (k - base) ≡ k = omega arith in e) (rest (k - base) (omega arith) (omega arith)))
      (λ old. front_is (is_settled w) (tail_in l w) (base + 1) l.tails (k - (base + 1)) k (omega arith) (omega arith)));
}

-- ---- facts

pub facts_settle : FactsSettle
facts_settle l w t x word back values cell = (
  (λ closed. settles 1 0 closed.1 (omega arith) (omega arith) (omega arith)),
  (λ time some low state. settles (time + 1) time state.1 (omega arith) (omega arith) (omega arith)),
)
  where
    settles : (state time : ℕ) → w.states (x % 16) (x / 16) ≡ state → 0 < state → state ≤ w.clock + 1 → state - 1 ≡ time → IsSettledAs l w t (tail_by word values time)
    settles state time is ended low at = let here : state_at w t ≡ state = ap (entry w.states) cell.1 ∙ is in record {
      settled = settled_so w t cell.0 (omega arith) (omega arith);
      is = λ i. tail_by (cell.2 i) (cell.4 i) ((ap (λ (n : ℕ). n - 1) here ∙ at) i);
    }

pub commits_settle : CommitsSettle
commits_settle c sound t x word back values time cell commit = let name : name_of (x % 16) (x / 16) ≡ x = omega arith in
    (facts_settle c.limits c.words t x word back values cell).1 time commit.0 commit.1
    (omega arith, subst (λ (e : ℕ). c.words.states (e % 16) (e / 16) ≡ time + 1) (commit.3 ∙ name) (sound.times.named time commit.0 commit.1).state)
