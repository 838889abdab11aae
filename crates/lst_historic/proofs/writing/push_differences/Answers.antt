use Rattle.std.proofs.Common.{◌≡◌, ◌∙◌, ◌+◌, ◌++◌, [], cond, drop, ap, sym, arith, append_assoc, append-nil}
use Rattle.lst_historic.specs.Blocks.{are_same, cell_text, differences}
use Rattle.lst_historic.proofs.Written.{over, text_more, numbers_more, numbers_end}
use Rattle.lst_historic.proofs.writing.push_differences.Goals as goal

pub loop-column-preserved : goal.loop-column-preserved
loop-column-preserved c =
    let old = c.args.old.now.items in
    let new = c.args.new.now.items in
    let column = c.loop-column.column in
    let out = c.loop-column.out.items in
    let rest = differences (drop (column + 1) old) (drop (column + 1) new) in
    let one = cond (are_same c.cell_at.result c.cell_at-in-loop-column.result) [] (cell_text c.cell_at.result c.cell_at-in-loop-column.result) in
    record {
      text =
          ap (λ o. o ++ rest) c.in_ok-push_cell.ensures.text
          ∙ append_assoc out one rest
          ∙ ap (λ t. out ++ t) (sym (text_more old new column c.cell_at.result c.cell_at-in-loop-column.result c.cell_at.ensures c.cell_at-in-loop-column.ensures))
          ∙ c.loop-column.invariant.text;
      numbers = λ rest. c.loop-column.invariant.numbers (numbers_more new column c.cell_at-in-loop-column.result c.cell_at-in-loop-column.ensures c.push_cell.ensures.number rest);
    }

pub returns : goal.returns
returns c =
    let all = c.width-column-end.ensures.all in
    let o = over c.args.old.now.items c.args.new.now.items c.loop-column.column (omega (arith, all)) in
    record {
      numbers = λ same. c.loop-column.invariant.numbers (numbers_end c.args.new.now.items c.loop-column.column (omega (arith, all, same)));
      text = sym (append-nil c.loop-column.out.items) ∙ ap (λ t. c.loop-column.out.items ++ t) (sym o.text) ∙ c.loop-column.invariant.text;
    }
