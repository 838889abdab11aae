use Rattle.std.proofs.Common.{rules}
use Rattle.lst_legal.proofs.reads.tells_row.Goals as goal

pub returns-in-Some : goal.returns-in-Some
returns-in-Some c = search rules
