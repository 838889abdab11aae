use Rattle.std.proofs.Common.{arith}
use Rattle.lst_script.proofs.Beginnings.{no_cells, cell_set, all_cells}
use Rattle.lst_script.proofs.fronts.cells_in_front.Goals as goal

pub loop-column-init : goal.loop-column-init
loop-column-init c = (no_cells c.args.text.now c.args.row.now c.requires.none, omega arith)

pub loop-column-preserved : goal.loop-column-preserved
loop-column-preserved c =
    (cell_set c.loop-column._column c.args.text.now c.loop-column.rest.now c.in_ok-number.after.now c.loop-column.row c.push.new.self c.in_ok-number.number c.loop-column.invariant.0 c.in_ok-number.ensures c.push.ensures, omega (arith, c.loop-column-test.true))

pub returns : goal.returns
returns c = all_cells c.args.count c.loop-column._column c.args.text.now c.loop-column.rest.now c.in_ok-behind.behind.now c.loop-column.row c.loop-column.invariant.0.0 (omega (arith, c.loop-column.invariant.1, c.loop-column-test.false)) c.in_ok-behind.ensures
