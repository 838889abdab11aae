use Rattle.std.proofs.Common.{rules}
use Rattle.lst_legal_runs.proofs.refusals.ends_or_stays.Goals as goal

pub returns-in-Ended : goal.returns-in-Ended
returns-in-Ended c = search rules
