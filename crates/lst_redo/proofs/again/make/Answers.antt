use Rattle.std.proofs.Common.{rules}
use Rattle.lst_redo.proofs.again.make.Goals as goal

pub returns-in-Del-clause-machine : goal.returns-in-Del-clause-machine
returns-in-Del-clause-machine c = search rules
