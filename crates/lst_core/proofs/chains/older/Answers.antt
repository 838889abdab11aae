use Rattle.std.proofs.Common.{arith}
use Rattle.lst_layout.specs.Words.{shown}
use Rattle.lst_core.proofs.Chaining.{back_some, back_none, fits_tail}
use Rattle.lst_core.proofs.chains.older.Goals as goal

pub overflow_add-result : goal.overflow_add-result
overflow_add-result c = let l = c.args.layout.now.limits in let is = back_some l (shown l c.args.words.now).cells c.args.tail c.cell-number.result c.cell-number.ensures c.if-number-eq0.false in let h = c.requires.falls in let t = c.requires.tail.1 in let low = fits_tail l c.args.layout.now.valid c.args.tail t in omega arith

pub overflow_cast-result-else-number-eq0 : goal.overflow_cast-result-else-number-eq0
overflow_cast-result-else-number-eq0 c = let l = c.args.layout.now.limits in let is = back_some l (shown l c.args.words.now).cells c.args.tail c.cell-number.result c.cell-number.ensures c.if-number-eq0.false in let h = c.requires.falls in let t = c.requires.tail.1 in let low = fits_tail l c.args.layout.now.valid c.args.tail t in omega arith

pub returns-then-number-eq0 : goal.returns-then-number-eq0
returns-then-number-eq0 c = let l = c.args.layout.now.limits in back_none l (shown l c.args.words.now).cells c.args.tail c.cell-number.result c.cell-number.ensures c.if-number-eq0.true

pub returns-else-number-eq0 : goal.returns-else-number-eq0
returns-else-number-eq0 c = let l = c.args.layout.now.limits in back_some l (shown l c.args.words.now).cells c.args.tail c.cell-number.result c.cell-number.ensures c.if-number-eq0.false
