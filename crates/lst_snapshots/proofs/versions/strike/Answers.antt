use Rattle.std.proofs.Common.{rules}
use Rattle.lst_snapshots.proofs.versions.strike.Goals as goal

pub returns-then-newest-time-clause-struck : goal.returns-then-newest-time-clause-struck
returns-then-newest-time-clause-struck c = search rules
