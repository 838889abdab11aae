-- What a probe answers is determined.
use Rattle.std.proofs.Common.{◌≡◌, ◌⊎◌, ⊎_elim, inl, inr, ℕ, ◌<◌, ◌≤◌, Bool, true, false, true≢false, sym, subst, ap, ◌∙◌, arith}
use mathlib.Core.Logic.{dite}
use native.Mathlib.Decide.{dec_lt}
use Rattle.lst_probe.specs.declared.Found.TheVariants.{At, Free}
use Rattle.lst_probe.specs.Run.{run_position, Reaches}
use Rattle.lst_probe.specs.Found.{HasOneAnswer}

module _ (word : ℕ → ℕ) (same : ℕ → Bool) (n from : ℕ) where
  -- the probe stops at the word
  abbrev Stops : ℕ → Type 0
  Stops w = (w ≡ 0) ⊎ (same w ≡ true)

  passes_none_that_stops : (w : ℕ) → Stops w → 0 < w → same w ≡ false → ⊥
  passes_none_that_stops w stops filled other = ⊎_elim (λ (z : w ≡ 0). omega (arith, z, filled)) (λ (t : same w ≡ true). true≢false (sym t ∙ other)) stops

  abbrev Comes : ℕ → Type 0
  Comes = Reaches word (λ w. same w ≡ false) n from

  -- not past a word at which the probe stops
  not_past : (p q : ℕ) (a : Comes p) (b : Comes q) → Stops (word p) → b.offset ≤ a.offset
  not_past p q a b stops = dite (dec_lt a.offset b.offset) (λ (before : a.offset < b.offset). let passed = b.passes a.offset before in
      absurd (passes_none_that_stops (word (run_position n from a.offset)) (subst (λ (r : ℕ). Stops (word r)) a.is stops) passed.0 passed.1))
      (λ after. omega (arith, after))

  same_position : (p q : ℕ) → Comes p → Comes q → Stops (word p) → Stops (word q) → p ≡ q
  same_position p q a b stops stops' = let one : a.offset ≡ b.offset = (let h = not_past p q a b stops in let k = not_past q p b a stops' in omega arith) in a.is ∙ ap (run_position n from) one ∙ sym b.is

pub one_answer : HasOneAnswer
one_answer word same n from (At p) (At q) low a b = ap At (same_position word same n from p q a.0 b.0 (inr a.2) (inr b.2))
one_answer word same n from (At p) (Free q) low a b = let e = same_position word same n from p q a.0 b.0 (inr a.2) (inl b.1) in let filled = a.1 in let empty = ap word e ∙ b.1 in absurd (omega (arith, filled, empty))
one_answer word same n from (Free p) (At q) low a b = let e = same_position word same n from p q a.0 b.0 (inl a.1) (inr b.2) in let filled = b.1 in let empty = sym (ap word e) ∙ a.1 in absurd (omega (arith, filled, empty))
one_answer word same n from (Free p) (Free q) low a b = ap Free (same_position word same n from p q a.0 b.0 (inl a.1) (inl b.1))
