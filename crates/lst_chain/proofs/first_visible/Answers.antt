use Rattle.std.proofs.Common.{rules}
use Rattle.lst_chain.proofs.first_visible.Goals as goal

pub returns-clause-none : goal.returns-clause-none
returns-clause-none g c = search rules
