use Rattle.std.proofs.Common.{◌≡◌, ◌∙◌, List, length, ap, arith}
use Rattle.lst_model.specs.Cells.{Cell}
use Rattle.lst_historic.proofs.Overlaid.{copied_more, copied_end}
use Rattle.lst_historic.proofs.changing.copy.Goals as goal

pub loop-column-preserved : goal.loop-column-preserved
loop-column-preserved c =
    let count = ap (λ (cells : List Cell). length cells) c.as_slice-3.ensures.value in
    let same = c.loop-column.invariant.same in
    let size = c.loop-column.invariant.size in
    let more =
    copied_more c.loop-column.column c.args.cells.now.items c.args.other.now.items c.loop-column.cells.items c.set.new.cells.items c.cell_at.result c.cell_at.ensures
    (omega (arith, count, same, c.loop-column-test.true)) c.set.ensures (omega (arith, same, size)) c.loop-column.invariant.so_far in
    record { same = same; size = more.size ∙ same; so_far = more.so_far }

pub returns : goal.returns
returns c =
    let count = ap (λ (cells : List Cell). length cells) c.as_slice-3.ensures.value in
    copied_end c.loop-column.column c.args.cells.now.items c.args.other.now.items c.loop-column.cells.items c.loop-column.invariant.same (omega (arith, count, c.loop-column-test.false)) c.loop-column.invariant.so_far
