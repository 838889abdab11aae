use Rattle.std.proofs.Common.{ℕ, ◌≡◌, ◌+◌, [], ◌∷◌, ◌++◌, cond, length, ap, ◌∙◌, arith}
use Rattle.std.proofs.lemmas.List.{length-append}
use Rattle.std.specs.Prelude.{Some, None, slice_index}
use Rattle.lst_model.specs.Cells.{has_bit, cell_of}
use Rattle.lst_model.proofs.Masks.{changes_more}
use Rattle.lst_model.proofs.rows.Patch.fill.Goals as goal

pub loop-column-preserved : goal.loop-column-preserved
loop-column-preserved c = let k : ℕ = c.loop-column.column in let x : ℕ = slice_index c.args.numbers.now k in
    let change : c.change.result ≡ cond (has_bit c.args.mask (0 + k)) (Some (cell_of c.args.nulls (0 + k) x)) None = c.change.ensures ∙ ap (λ (n : ℕ). cond (has_bit c.args.mask n) (Some (cell_of c.args.nulls n x)) None) (let e : k ≡ 0 + k = omega arith in e) in (
      c.push.ensures ∙ ((λ i. c.loop-column.invariant.0 i ++ change i ∷ []) ∙ changes_more c.args.mask c.args.nulls 0 c.args.numbers.now k c.loop-column-test.true),
      let n = c.loop-column.invariant.1 in let m = ap length c.push.ensures ∙ length-append c.loop-column.self (c.change.result ∷ []) in omega arith,
    )
