use Rattle.std.proofs.Common.{rules}
use Rattle.lst_write.proofs.cells.cell_word.Goals as goal

pub returns-in-2 : goal.returns-in-2
returns-in-2 c = search rules
