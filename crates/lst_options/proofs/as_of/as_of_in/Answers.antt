use Rattle.std.proofs.Common.{rules}
use Rattle.lst_options.proofs.as_of.as_of_in.Goals as goal

pub returns-clause-some : goal.returns-clause-some
returns-clause-some c = search rules
