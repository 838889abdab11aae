use Rattle.std.proofs.Common.{ℕ, ◌^◌, not, eqb, bit_and, ap, ◌∙◌}
use Rattle.lst_machine.proofs.Indexing.{indexed_within, indexed_past}
use Rattle.lst_machine.proofs.answers.is_indexed.Goals as goal

pub returns-then-column-ge32 : goal.returns-then-column-ge32
returns-then-column-ge32 c =
    indexed_past c.from-indexed.result c.args.column c.from-indexed.type_inv c.if-column-ge32.true
    ∙ ap (λ (n : ℕ). not (eqb (bit_and n (2 ^ c.args.column)) 0)) c.from-indexed.ensures

pub returns : goal.returns
returns c =
    indexed_within c.from-indexed.result c.args.column
    ∙ ap (λ (n : ℕ). not (eqb (bit_and n (2 ^ c.args.column)) 0)) c.from-indexed.ensures
