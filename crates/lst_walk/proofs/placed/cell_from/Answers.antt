use Rattle.lst_rule.proofs.Watching.{watched_same}
use Rattle.std.proofs.Common.{◌≡◌, refl}
use Rattle.lst_rule.proofs.Finds.{loads_none}
use Rattle.lst_walk.proofs.placed.cell_from.Goals as goal

pub returns-then-has_column-clause-watched : goal.returns-then-has_column-clause-watched
returns-then-has_column-clause-watched c = watched_same c.args.seat.now.view c.args.s

pub returns-then-has_column-clause-loads : goal.returns-then-has_column-clause-loads
returns-then-has_column-clause-loads c = loads_none (λ t. t ≡ c.args.tail) c.args.seat.now.view c.args.seat.now.view c.args.s refl

pub value_from-requires-clause-reader : goal.value_from-requires-clause-reader
value_from-requires-clause-reader c = c.requires.reader

pub value_from-requires-clause-version : goal.value_from-requires-clause-version
value_from-requires-clause-version c = c.requires.version

pub value_from-requires-clause-first : goal.value_from-requires-clause-first
value_from-requires-clause-first c = c.requires.first

pub value_from-requires-clause-column : goal.value_from-requires-clause-column
value_from-requires-clause-column c = c.requires.column

pub returns-then-has_column-clause-reader : goal.returns-then-has_column-clause-reader
returns-then-has_column-clause-reader c = c.requires.reader

pub returns-else-has_column-clause-reader : goal.returns-else-has_column-clause-reader
returns-else-has_column-clause-reader c = c.value_from.ensures.reader

pub returns-else-has_column-clause-watched : goal.returns-else-has_column-clause-watched
returns-else-has_column-clause-watched c = c.value_from.ensures.watched

pub returns-else-has_column-clause-loads : goal.returns-else-has_column-clause-loads
returns-else-has_column-clause-loads c = c.value_from.ensures.loads
