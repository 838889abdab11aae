use Rattle.lst_core.proofs.Drafting.{whole_put, whole_other}
use Rattle.lst_core.proofs.allowed.is_drafted.Goals as goal

pub returns-then-cell-eq1 : goal.returns-then-cell-eq1
returns-then-cell-eq1 c = whole_put c.args.layout.now.limits c.args.words.now c.args.hold (c.is_cell.ensures.0 c.if-not-is_cell.false) (c.is_of.ensures.0 c.if-not-is_of.false) c.cell.result c.cell.ensures c.has_row-present.result c.has_row-present.ensures c.if-cell-eq1.true

pub returns-else-cell-eq1 : goal.returns-else-cell-eq1
returns-else-cell-eq1 c = whole_other c.args.layout.now.limits c.args.words.now c.args.hold (c.is_cell.ensures.0 c.if-not-is_cell.false) (c.is_of.ensures.0 c.if-not-is_of.false) c.cell.result c.cell.ensures c.has_row-present.result c.has_row-present.ensures c.if-cell-eq1.false
