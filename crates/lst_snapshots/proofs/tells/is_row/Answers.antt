use Rattle.std.proofs.Common.{rules}
use Rattle.lst_snapshots.proofs.tells.is_row.Goals as goal

pub returns-in-Some : goal.returns-in-Some
returns-in-Some c = search rules
