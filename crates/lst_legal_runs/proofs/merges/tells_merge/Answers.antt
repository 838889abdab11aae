use Rattle.std.proofs.Common.{rules}
use Rattle.lst_legal_runs.proofs.merges.tells_merge.Goals as goal

pub returns-then-last-from : goal.returns-then-last-from
returns-then-last-from c = search rules
