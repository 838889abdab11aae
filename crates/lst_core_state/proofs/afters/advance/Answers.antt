use Rattle.std.proofs.Common.{rules}
use Rattle.lst_core_state.proofs.afters.advance.Goals as goal

pub returns-else-found-eq0-2 : goal.returns-else-found-eq0-2
returns-else-found-eq0-2 c = search rules
