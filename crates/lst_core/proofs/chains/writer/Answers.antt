use Rattle.lst_core.proofs.Chaining.{odd_writer, even_writer, even_log, within_writer}
use Rattle.lst_core.proofs.chains.writer.Goals as goal

pub log-requires-clause-place : goal.log-requires-clause-place
log-requires-clause-place c = even_log c.args.layout.now.limits c.args.words.now c.requires.read c.args.tail c.cell-start.result c.requires.stored c.cell-start.ensures c.if-start-eq1.false

pub returns-then-start-eq1-clause-writer : goal.returns-then-start-eq1-clause-writer
returns-then-start-eq1-clause-writer c = odd_writer c.args.layout.now.limits c.args.words.now c.requires.read c.args.tail c.cell-start.result c.cell-start.ensures c.if-start-eq1.true

pub returns-then-start-eq1-clause-within : goal.returns-then-start-eq1-clause-within
returns-then-start-eq1-clause-within c = within_writer c.args.layout.now.limits c.args.words.now c.requires.read c.args.tail _ c.requires.stored (odd_writer c.args.layout.now.limits c.args.words.now c.requires.read c.args.tail c.cell-start.result c.cell-start.ensures c.if-start-eq1.true)

pub returns-else-start-eq1-clause-writer : goal.returns-else-start-eq1-clause-writer
returns-else-start-eq1-clause-writer c = even_writer c.args.layout.now.limits c.args.words.now c.requires.read c.args.tail c.cell-start.result c.log.result c.cell-start.ensures c.if-start-eq1.false c.log.ensures

pub returns-else-start-eq1-clause-within : goal.returns-else-start-eq1-clause-within
returns-else-start-eq1-clause-within c = within_writer c.args.layout.now.limits c.args.words.now c.requires.read c.args.tail c.log.result c.requires.stored (even_writer c.args.layout.now.limits c.args.words.now c.requires.read c.args.tail c.cell-start.result c.log.result c.cell-start.ensures c.if-start-eq1.false c.log.ensures)
