-- Counters that numbers are drawn from.
use Rattle.std.proofs.Common.{◌≡◌, ℕ, ◌+◌, ◌-◌, ◌<◌, ◌≤◌, Bool, true, false, ◌||◌, nat_lt, refl, sym, subst, ap, ◌∙◌, arith, true≢false, ◌⊎◌, ⊎_elim, inl, inr, ltb-true}
use mathlib.Core.Logic.{dite}
use native.Mathlib.Decide.{ℕ_discrete}
use Rattle.lst_layout.specs.Functions.{put}
use Rattle.lst_probe.proofs.Counting.{pigeonhole}
use Rattle.lst_core_state.specs.declared.known.Counter.{Counter}
use Rattle.lst_core_state.specs.Step.{served, drawn_full, spent}
use Rattle.lst_core_state.specs.Sound.{Counted}
use Rattle.lst_core_state.proofs.Functions.{put_here, put_else, each_put}

-- a function of what is put at one place
pub along : {A B : Type 0} (g : A → B) (f : ℕ → A) (k : ℕ) (a : A) → (λ (j : ℕ). g (put f k a j)) ≡ put (λ (j : ℕ). g (f j)) k (g a)
along {A} g f k a = λ i j. each_put (λ (m : ℕ) (u : A). g u ≡ put (λ (n : ℕ). g (f n)) k (g a) m) f k a (sym (put_here (λ (n : ℕ). g (f n)) k (g a))) (λ m other. sym (put_else (λ (n : ℕ). g (f n)) k (g a) m other)) j i

pub or_says : (a b : Bool) → (a || b) ≡ true → (a ≡ true) ⊎ (b ≡ true)
or_says true b e = inl refl
or_says false b e = inr e

module _ (limit sessions counter : ℕ) (knows : ℕ → Counter) (p : Counted limit sessions counter knows) where
  -- the counter passes its limit by no more than there are sessions
  pub counter_low : counter ≤ limit + sessions
  counter_low = let h = pigeonhole (counter - limit) sessions (λ i. p.full_by (limit + i)) (λ i h. (drew i h).0)
      (λ i j h k e. let a = (drew i h).1 in let b = (drew j k).1 in let same : (knows (p.full_by (limit + i))).full ≡ (knows (p.full_by (limit + j))).full = ap (λ (s : ℕ). (knows s).full) e in omega arith) in omega arith
    where
      drew : (i : ℕ) → i < counter - limit → (p.full_by (limit + i) < sessions) × ((knows (p.full_by (limit + i))).full ≡ limit + i + 1)
      drew i h = p.fulls (limit + i) (omega arith) (omega arith)

  pub counted_alike : (knows' : ℕ → Counter) → ((s : ℕ) → s < sessions → knows' s ≡ knows s) → Counted limit sessions counter knows'
  counted_alike knows' same = record {
    full = λ s h. subst (λ (c : Counter). 0 < c.full → (limit < c.full) × (c.full ≤ counter)) (sym (same s h)) (p.full s h);
    serves = λ s h. subst (λ (c : Counter). c.is_serving ≡ true → c.full ≡ 0) (sym (same s h)) (p.serves s h);
    full_by = p.full_by;
    fulls = λ v a b. let f = p.fulls v a b in (f.0, ap (λ (c : Counter). c.full) (same (p.full_by v) f.0) ∙ f.1);
  }

  module _ (s : ℕ) (low : s < sessions) where
    pub counted_put : (c' : Counter) → c'.full ≡ (knows s).full → (c'.is_serving ≡ true → c'.full ≡ 0) → Counted limit sessions counter (put knows s c')
    counted_put c' same serves = record {
      full = each_put (λ (j : ℕ) (c : Counter). j < sessions → 0 < c.full → (limit < c.full) × (c.full ≤ counter)) knows s c' (λ h. subst (λ (x : ℕ). 0 < x → (limit < x) × (x ≤ counter)) (sym same) (p.full s h)) (λ j other. p.full j);
      serves = each_put (λ (j : ℕ) (c : Counter). j < sessions → c.is_serving ≡ true → c.full ≡ 0) knows s c' (λ _. serves) (λ j other. p.serves j);
      full_by = p.full_by;
      fulls = λ v a b. let f = p.fulls v a b in (
        f.0,
        dite (ℕ_discrete (p.full_by v) s)
            (λ e. ap (λ (c : Counter). c.full) (ap (put knows s c') e ∙ put_here knows s c') ∙ (same ∙ (ap (λ (j : ℕ). (knows j).full) (sym e) ∙ f.1)))
            (λ ne. ap (λ (c : Counter). c.full) (put_else knows s c' (p.full_by v) ne) ∙ f.1),
      );
    }

    pub counted_look : Counted limit sessions counter (put knows s (served limit counter (knows s)))
    counted_look = counted_put (served limit counter (knows s)) refl (λ e. ⊎_elim (λ (old : (knows s).is_serving ≡ true). p.serves s low old)
        (λ (new : nat_lt counter limit ≡ true). let h = ltb-true counter limit new in dite (ℕ_discrete (knows s).full 0) (λ z. z) (λ z. let f = p.full s low (omega arith) in absurd (omega arith)))
        (or_says (knows s).is_serving (nat_lt counter limit) e))

    module _ (serving : (knows s).is_serving ≡ true) where
      pub counted_draw : counter < limit → Counted limit sessions (counter + 1) (put knows s (spent (knows s)))
      counted_draw short = let none = p.serves s low serving in record {
        full = each_put (λ (j : ℕ) (c : Counter). j < sessions → 0 < c.full → (limit < c.full) × (c.full ≤ counter + 1)) knows s (spent (knows s)) (λ h pos. absurd (omega arith)) (λ j other h pos. let f = p.full j h pos in (f.0, omega arith));
        serves = each_put (λ (j : ℕ) (c : Counter). j < sessions → c.is_serving ≡ true → c.full ≡ 0) knows s (spent (knows s)) (λ _ e. absurd (true≢false (sym e))) (λ j other. p.serves j);
        full_by = p.full_by;
        fulls = λ v a b. absurd (omega arith);
      }

      pub counted_full : limit ≤ counter → Counted limit sessions (counter + 1) (put knows s (drawn_full counter))
      counted_full long = let none = p.serves s low serving in let c' : Counter = drawn_full counter in record {
        full = each_put (λ (j : ℕ) (c : Counter). j < sessions → 0 < c.full → (limit < c.full) × (c.full ≤ counter + 1)) knows s c' (λ h pos. (omega arith, omega arith)) (λ j other h pos. let f = p.full j h pos in (f.0, omega arith));
        serves = each_put (λ (j : ℕ) (c : Counter). j < sessions → c.is_serving ≡ true → c.full ≡ 0) knows s c' (λ _ e. absurd (true≢false (sym e))) (λ j other. p.serves j);
        full_by = put p.full_by counter s;
        fulls = each_put (λ (v j : ℕ). limit ≤ v → v < counter + 1 → (j < sessions) × ((put knows s c' j).full ≡ v + 1)) p.full_by counter s
            (λ _ _. (low, ap (λ (c : Counter). c.full) (put_here knows s c')))
            (λ v other high below. let f = p.fulls v high (omega arith) in (f.0, ap (λ (c : Counter). c.full) (put_else knows s c' (p.full_by v) (λ e. let g : (knows (p.full_by v)).full ≡ (knows s).full = ap (λ (j : ℕ). (knows j).full) e in let h = f.1 in omega arith)) ∙ f.1));
      }
