use Rattle.std.proofs.Common.{ℕ, ◌<◌, ◌^◌, get_or, None, inl, inr, subst, sym, arith}
use Rattle.std.specs.Prelude.{IfSome}
use Rattle.std.proofs.lemmas.Bool.{cases_eq}
use Rattle.lst_log.proofs.read.is_patch_width.Goals as goal

pub loop-change-preserved : goal.loop-change-preserved
loop-change-preserved c = λ i low. elim (cases_eq i c.loop-change.change-index) [
  | inl same ↦ subst (λ (k : ℕ). IfSome (get_or c.args.changes.now k None) (λ number. number < 2 ^ 64)) (sym same) c.is_of_64_bits.ensures
  | inr other ↦ c.loop-change.invariant i (omega (arith, low, other))
]

pub returns-clause-low : goal.returns-clause-low
returns-clause-low c = λ i low. c.loop-change.invariant i (omega (arith, low, c.loop-change-test.false))
