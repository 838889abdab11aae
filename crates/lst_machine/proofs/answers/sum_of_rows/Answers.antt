use Rattle.std.proofs.Common.{ℕ, ◌+◌, List, sym, ap, ◌∙◌, arith}
use Rattle.std.proofs.lemmas.List.Sums.{sum_by_more}
use Rattle.lst_model.specs.Cells.{Cell, number_at}
use Rattle.lst_machine.proofs.answers.sum_of_rows.Goals as goal

pub loop-entry-preserved : goal.loop-entry-preserved
loop-entry-preserved c =
    let number = c.from-total.ensures ∙ c.number_in.ensures in
    let more = sum_by_more (λ (entry : ℕ × List Cell). number_at c.args.column entry.1) c.args.rows.now c.loop-entry.entry-index c.entry-item.result c.loop-entry-test.true in
    let here = number ∙ ap (λ (entry : ℕ × List Cell). number_at c.args.column entry.1) c.entry-item.is in
    record {
      total = (λ i. c.loop-entry.invariant.total i + here i) ∙ sym more;
      low = let so_far = c.loop-entry.invariant.low in let same = c.from-total.ensures in let fits = c.number_in.type_inv in omega (arith, so_far, same, fits);
    }
