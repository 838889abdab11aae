use Rattle.std.proofs.Common.{rules}
use Rattle.lst_work.proofs.reporting.work.Goals as goal

pub returns : goal.returns
returns g c = search rules
