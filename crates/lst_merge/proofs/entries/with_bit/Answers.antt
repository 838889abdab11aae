use Rattle.std.proofs.Common.{◌≡◌, ℕ, sym, ap, ◌∙◌, subst, Bool, cond, eqb, bit_or, bit_xor}
use Rattle.lst_model.specs.Cells.{has_bit}
use Rattle.lst_merge.proofs.Wording.{bit_shifted, bit_set_there, bit_cleared_there}
use Rattle.lst_merge.proofs.entries.with_bit.Goals as goal

pub returns-then-is_set : goal.returns-then-is_set
returns-then-is_set c = λ other low. subst (λ (m : ℕ). has_bit (bit_or c.args.word m) other ≡ cond (eqb c.args.bit other) c.args.is_set (has_bit c.args.word other)) (sym (bit_shifted c.args.bit c.requires))
    (bit_set_there c.args.word c.args.bit other ∙ ap (λ (b : Bool). cond (eqb c.args.bit other) b (has_bit c.args.word other)) (sym c.if-is_set.true))

pub returns-else-is_set : goal.returns-else-is_set
returns-else-is_set c = λ other low. subst (λ (m : ℕ). has_bit (bit_xor (bit_or c.args.word m) m) other ≡ cond (eqb c.args.bit other) c.args.is_set (has_bit c.args.word other)) (sym (bit_shifted c.args.bit c.requires))
    (bit_cleared_there c.args.word c.args.bit other ∙ ap (λ (b : Bool). cond (eqb c.args.bit other) b (has_bit c.args.word other)) (sym c.if-is_set.false))
