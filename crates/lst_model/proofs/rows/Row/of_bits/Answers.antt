use Rattle.std.proofs.Common.{ℕ, ◌≡◌, ◌+◌, [], ◌∷◌, ◌++◌, length, ap, ◌∙◌, arith}
use Rattle.std.proofs.lemmas.List.{length-append}
use Rattle.std.specs.Prelude.{slice_index}
use Rattle.lst_model.specs.Cells.{cell_of}
use Rattle.lst_model.proofs.Masks.{cells_more}
use Rattle.lst_model.proofs.rows.Row.of_bits.Goals as goal

pub loop-column-preserved : goal.loop-column-preserved
loop-column-preserved c = let k : ℕ = c.loop-column.column in let cell : c.cell.result ≡ cell_of c.args.nulls (0 + k) (slice_index c.args.numbers.now k) = c.cell.ensures ∙ ap (λ (n : ℕ). cell_of c.args.nulls n (slice_index c.args.numbers.now k)) (let e : k ≡ 0 + k = omega arith in e) in (
  c.push.ensures ∙ ((λ i. c.loop-column.invariant.0 i ++ cell i ∷ []) ∙ cells_more c.args.nulls 0 c.args.numbers.now k c.loop-column-test.true),
  let n = c.loop-column.invariant.1 in let m = ap length c.push.ensures ∙ length-append c.loop-column.row (c.cell.result ∷ []) in omega arith,
)
