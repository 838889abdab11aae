use Rattle.std.proofs.Common.{rules}
use Rattle.lst_io.proofs.faults.raised.Goals as goal

pub returns-clause-value : goal.returns-clause-value
returns-clause-value c = search rules
