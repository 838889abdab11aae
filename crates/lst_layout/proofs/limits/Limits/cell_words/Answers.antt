use Rattle.std.proofs.Common.{rules}
use Rattle.lst_layout.proofs.limits.Limits.cell_words.Goals as goal

pub returns-clause-count : goal.returns-clause-count
returns-clause-count c = search rules
