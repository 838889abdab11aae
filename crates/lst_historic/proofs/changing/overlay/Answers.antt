use Rattle.std.proofs.Common.{◌≡◌, ◌+◌, ◌<◌, ◌≤◌, arith}
use Rattle.lst_historic.proofs.Overlaid.{overlaid_first, overlaid_more, overlaid_end}
use Rattle.lst_historic.proofs.changing.overlay.Goals as goal

pub loop-column-init : goal.loop-column-init
loop-column-init c = record { size = omega arith; so_far = overlaid_first c.args.cells.now.items c.args.patch.now }

pub loop-column-preserved : goal.loop-column-preserved
loop-column-preserved c =
    let more =
    overlaid_more c.loop-column.column c.args.cells.now.items c.args.patch.now c.loop-column.cells.items c.set_change.new.cells.items c.change.result c.change.ensures
    (omega (arith, c.columns_of-column-end.ensures.old, c.loop-column-test.true)) c.set_change.ensures.none c.set_change.ensures.some c.loop-column.invariant.size c.loop-column.invariant.so_far in
    record { size = more.size; so_far = more.so_far }

pub returns : goal.returns
returns c = overlaid_end c.loop-column.column c.args.cells.now.items c.args.patch.now c.loop-column.cells.items (omega (arith, c.columns_of-column-end.ensures.all, c.loop-column-test.false)) c.loop-column.invariant.so_far
