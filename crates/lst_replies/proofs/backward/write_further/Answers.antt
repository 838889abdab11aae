use Rattle.std.proofs.Common.{ap, ◌≡◌, suc, ◌-◌, ◌∙◌, ◌∷◌, arith}
use Rattle.lst_replies.specs.Texts.{cell_text}
use Rattle.lst_replies.proofs.Sequences.{item_before}
use Rattle.lst_replies.proofs.backward.write_further.Goals as goal

pub loop-column-preserved : goal.loop-column-preserved
loop-column-preserved c =
    let next : suc (c.loop-column.column - 1) ≡ c.loop-column.column = omega arith in
    record {
      above = omega arith;
      within = omega arith;
      before = omega arith;
      room = omega arith;
      written = item_before cell_text c.args.between c.args.row.now c.loop-column.column (c.loop-column.column - 1) c.cell.result _ _ _ c.cell.ensures next
          c.loop-column.invariant.written (c.write_byte-at.ensures.written ∙ ap (λ t. c.args.between ∷ t) c.write_cell-at.ensures.written);
    }
