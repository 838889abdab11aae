use Rattle.std.proofs.Common.{rules}
use Rattle.lst_core_state.proofs.targets.written.Goals as goal

pub returns-in-Give : goal.returns-in-Give
returns-in-Give c = search rules
