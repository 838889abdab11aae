use Rattle.std.proofs.Common.{rules}
use Rattle.lst_line_list.proofs.kinds.tell.Goals as goal

pub returns-in-Find : goal.returns-in-Find
returns-in-Find c = search rules
