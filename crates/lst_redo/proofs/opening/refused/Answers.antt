use Rattle.std.proofs.Common.{rules}
use Rattle.lst_redo.proofs.opening.refused.Goals as goal

pub returns-clause-damaged : goal.returns-clause-damaged
returns-clause-damaged g c = search rules
