use Rattle.std.proofs.Common.{rules}
use Rattle.lst_line_list.proofs.keeping.keep_call.Goals as goal

pub returns-in-Delete : goal.returns-in-Delete
returns-in-Delete c = search rules
