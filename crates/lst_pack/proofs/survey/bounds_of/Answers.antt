use Rattle.std.proofs.Common.{◌≡◌, ℕ, slice_index, arith, subst, inl, inr}
use mathlib.Core.Logic.{dite}
use native.Mathlib.Decide.{dec_lt}
use Rattle.lst_pack.specs.Counts.{IsLeast, IsGreatest}
use Rattle.lst_pack.proofs.Counting.{least_on, greatest_on, least_first, greatest_first}
use Rattle.lst_pack.proofs.survey.bounds_of.Goals as goal

pub loop-place-init : goal.loop-place-init
loop-place-init c = record { least = least_first c.args.values.now; greatest = greatest_first c.args.values.now }

pub loop-place-preserved : goal.loop-place-preserved
loop-place-preserved c = let value = slice_index c.args.values.now c.loop-place.place in record {
  least = least_on c.args.values.now c.loop-place.place c.loop-place.least c.min-least.result c.loop-place.invariant.least (omega (arith, c.min-least.ensures)) (omega (arith, c.min-least.ensures))
      (dite (dec_lt c.loop-place.least value) (λ h. inl (omega (arith, h, c.min-least.ensures))) (λ h. inr (omega (arith, h, c.min-least.ensures))));
  greatest = greatest_on c.args.values.now c.loop-place.place c.loop-place.greatest c.max-greatest.result c.loop-place.invariant.greatest (omega (arith, c.max-greatest.ensures)) (omega (arith, c.max-greatest.ensures))
      (dite (dec_lt c.loop-place.greatest value) (λ h. inr (omega (arith, h, c.max-greatest.ensures))) (λ h. inl (omega (arith, h, c.max-greatest.ensures))));
}

pub returns-clause-least : goal.returns-clause-least
returns-clause-least c = let e : c.loop-place.place ≡ 256 = omega arith in subst (λ (n : ℕ). IsLeast c.args.values.now n c.loop-place.least) e c.loop-place.invariant.least

pub returns-clause-greatest : goal.returns-clause-greatest
returns-clause-greatest c = let e : c.loop-place.place ≡ 256 = omega arith in subst (λ (n : ℕ). IsGreatest c.args.values.now n c.loop-place.greatest) e c.loop-place.invariant.greatest
