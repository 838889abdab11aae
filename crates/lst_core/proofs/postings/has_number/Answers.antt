use Rattle.std.proofs.Common.{sym, true≢false, ◌∙◌, eqb-true}
use Rattle.lst_core.proofs.Masks.{bit_is, number_named, number_unnamed}
use Rattle.lst_core.proofs.postings.has_number.Goals as goal

pub returns-then-is_named : goal.returns-then-is_named
returns-then-is_named c = let e = number_named c.args.word c.args.column _ (bit_is c.args.column c.requires) c.if-is_named.true in (λ t. sym e ∙ t, λ n. e ∙ n)

pub returns-else-is_named : goal.returns-else-is_named
returns-else-is_named c = (λ t. absurd (c.if-is_named.false (eqb-true _ _ t)), λ n. absurd (true≢false (sym n ∙ number_unnamed c.args.word c.args.column _ (bit_is c.args.column c.requires) c.if-is_named.false)))
