use Rattle.std.proofs.Common.{drop, ◌<◌, refl, arith}
use Rattle.lst_historic.proofs.Decoded.{second_next, cells_within, cell_some, cells_next, cells_done}
use Rattle.lst_historic.proofs.decoding.second_in.Goals as goal

pub step-requires-clause-column : goal.step-requires-clause-column
step-requires-clause-column c =
    let olds = c.args.cells.now.items in
    let rest = drop c.args.place c.args.bytes.now in
    cells_within olds olds 2 0 1 0 1 rest rest c.requires (second_next olds rest c.requires) (omega arith)

pub step-requires-clause-read : goal.step-requires-clause-read
step-requires-clause-read c = λ old here.
    let olds = c.args.cells.now.items in
    let rest = drop c.args.place c.args.bytes.now in
    cell_some olds olds 2 0 1 0 1 rest rest old c.requires (second_next olds rest c.requires) (omega arith) here

pub returns : goal.returns
returns c =
    let olds = c.args.cells.now.items in
    let news = c.step.new.cells.items in
    let rest = drop c.args.place c.args.bytes.now in
    let end = drop c.step.result c.args.bytes.now in
    cells_done olds news 2 0 0 0 2 rest end c.requires (cells_next olds olds news 2 0 1 0 1 rest rest end c.requires (second_next olds rest c.requires) (omega arith) c.step.ensures.step) refl
