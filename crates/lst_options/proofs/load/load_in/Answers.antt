use Rattle.std.proofs.Common.{rules}
use Rattle.lst_options.proofs.load.load_in.Goals as goal

pub returns-in_err-sessions-clause-none : goal.returns-in_err-sessions-clause-none
returns-in_err-sessions-clause-none c = search rules
