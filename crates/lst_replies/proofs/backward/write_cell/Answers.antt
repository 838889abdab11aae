use Rattle.std.proofs.Common.{rules}
use Rattle.lst_replies.proofs.backward.write_cell.Goals as goal

pub returns-in-None-clause-written : goal.returns-in-None-clause-written
returns-in-None-clause-written c = search rules
