use Rattle.std.proofs.Common.{arith}
use Rattle.lst_walk.proofs.Meanings.{value_found}
use Rattle.lst_walk.proofs.placed.value_from.Goals as goal

pub overflow_add-column : goal.overflow_add-column
overflow_add-column c = let valid = c.args.store.now.layout.valid.columns.1 in let low = c.requires.column in omega arith

pub returns-clause-value : goal.returns-clause-value
returns-clause-value c = value_found c.args.seat.now.view c.args.s c.args.tail c.args.store.now.layout.limits c.requires.reader.seat_of.limits c.args.store.now.layout.valid.columns.1 c.args.column c.word_from.result c.requires.column c.word_from.ensures.word
