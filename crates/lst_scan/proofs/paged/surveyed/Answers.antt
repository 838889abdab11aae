use Rattle.std.proofs.Common.{◌≡◌, ◌*◌, Bool, true, false, not, ◌&&◌, refl, sym, ap, ◌∙◌, arith, true≢false}
use mathlib.Core.Logic.{dite}
use native.Mathlib.Decide.{dec_lt}
use Rattle.lst_scan.proofs.Parts.{both_hold}
use Rattle.lst_scan.proofs.paged.surveyed.Goals as goal

-- two that hold hold together
and_both : (a b : Bool) → a ≡ true → b ≡ true → (a && b) ≡ true
and_both a b x y = λ i. x i && y i

-- what isn't denied holds
not_denied : (a : Bool) → not a ≡ false → a ≡ true
not_denied true e = refl
not_denied false e = absurd (true≢false e)

pub loop-block-init : goal.loop-block-init
loop-block-init c = (λ tps begin heads stamps i low. absurd (omega arith), (λ yes i low. absurd (omega arith), λ all. refl))

pub loop-block-preserved : goal.loop-block-preserved
loop-block-preserved c = (
  λ tps begin heads stamps i low. dite (dec_lt i (32 * c.loop-block.block))
      (λ before. c.loop-block.invariant.0 tps begin heads stamps i before)
      (λ here. (c.block_surveyed-known.ensures.told tps begin heads stamps).0 (not_denied c.block_surveyed-known.result.all_told c.if-not-known.false) i (omega arith) (omega arith)),
  (
    λ yes. let both = both_hold c.loop-block.all_present c.block_surveyed-known.result.all_present yes in λ i low. dite (dec_lt i (32 * c.loop-block.block))
        (λ before. c.loop-block.invariant.1.0 both.0 i before)
        (λ here. c.block_surveyed-known.ensures.present.0 both.1 i (omega arith) (omega arith)),
    λ all. and_both c.loop-block.all_present c.block_surveyed-known.result.all_present (c.loop-block.invariant.1.1 (λ i low. all i (omega arith))) (c.block_surveyed-known.ensures.present.1 (λ i from low. all i (omega arith))),
  ),
)

pub returns-then-not-known-clause-told : goal.returns-then-not-known-clause-told
returns-then-not-known-clause-told c = λ tps begin heads stamps. (
  λ no. absurd (true≢false (sym no)),
  λ all. absurd (true≢false (sym c.if-not-known.true ∙ ap (λ (b : Bool). not b) ((c.block_surveyed-known.ensures.told tps begin heads stamps).1 (λ i from low. all i (let few = c.loop-block-test.true in omega arith))))),
)

pub returns-then-not-known-clause-present : goal.returns-then-not-known-clause-present
returns-then-not-known-clause-present c = λ no. absurd (true≢false (sym no))

pub returns-clause-told : goal.returns-clause-told
returns-clause-told c = λ tps begin heads stamps. (
  λ yes i low. c.loop-block.invariant.0 tps begin heads stamps i (let end = c.loop-block-test.false in omega arith),
  λ all. refl,
)

pub returns-clause-present : goal.returns-clause-present
returns-clause-present c = λ told. (
  λ yes i low. c.loop-block.invariant.1.0 yes i (let end = c.loop-block-test.false in omega arith),
  λ all. c.loop-block.invariant.1.1 (λ i low. all i (let end = c.loop-block.auto.block-end in omega arith)),
)
