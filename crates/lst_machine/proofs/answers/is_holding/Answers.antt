use Rattle.std.proofs.Common.{rules}
use Rattle.lst_machine.proofs.answers.is_holding.Goals as goal

pub returns-in-None : goal.returns-in-None
returns-in-None c = search rules
