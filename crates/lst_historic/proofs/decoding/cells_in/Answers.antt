use Rattle.std.proofs.Common.{drop, ◌+◌, ◌<◌, arith}
use Rattle.lst_historic.proofs.Decoded.{cells_first, cells_within, cell_some, cells_next, cells_done}
use Rattle.lst_historic.proofs.decoding.cells_in.Goals as goal

pub loop-changed-init : goal.loop-changed-init
loop-changed-init c = cells_first c.args.cells.now.items c.args.mask c.args.nulls (drop c.args.place c.args.bytes.now)

pub step-at-requires-clause-column : goal.step-at-requires-clause-column
step-at-requires-clause-column c = cells_within c.args.cells.now.items c.loop-changed.cells.items c.args.mask c.args.nulls c.loop-changed.changed c.loop-changed.emptied c.loop-changed.column (drop c.args.place c.args.bytes.now) (drop c.loop-changed.at c.args.bytes.now) c.requires c.loop-changed.invariant c.loop-changed-test.true

pub step-at-requires-clause-read : goal.step-at-requires-clause-read
step-at-requires-clause-read c = λ old here. cell_some c.args.cells.now.items c.loop-changed.cells.items c.args.mask c.args.nulls c.loop-changed.changed c.loop-changed.emptied c.loop-changed.column (drop c.args.place c.args.bytes.now) (drop c.loop-changed.at c.args.bytes.now) old c.requires c.loop-changed.invariant c.loop-changed-test.true here

pub overflow_add-column : goal.overflow_add-column
overflow_add-column c = let few : c.loop-changed.column < 8 = c.step-at.ensures.few in record { fits = omega arith }

pub loop-changed-preserved : goal.loop-changed-preserved
loop-changed-preserved c = cells_next c.args.cells.now.items c.loop-changed.cells.items c.step-at.new.cells.items c.args.mask c.args.nulls c.loop-changed.changed c.loop-changed.emptied c.loop-changed.column (drop c.args.place c.args.bytes.now) (drop c.loop-changed.at c.args.bytes.now) (drop c.step-at.result c.args.bytes.now) c.requires c.loop-changed.invariant c.loop-changed-test.true c.step-at.ensures.step

pub returns : goal.returns
returns c = cells_done c.args.cells.now.items c.loop-changed.cells.items c.args.mask c.args.nulls c.loop-changed.changed c.loop-changed.emptied c.loop-changed.column (drop c.args.place c.args.bytes.now) (drop c.loop-changed.at c.args.bytes.now) c.requires c.loop-changed.invariant (omega (arith, c.loop-changed-test.false))
