use Rattle.std.proofs.Common.{rules}
use Rattle.lst_legal_runs.proofs.conflicts.Conflicts.is_in_the_way.Goals as goal

pub returns-else-commit-eq0 : goal.returns-else-commit-eq0
returns-else-commit-eq0 c = search rules
