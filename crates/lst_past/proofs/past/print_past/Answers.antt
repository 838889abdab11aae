use Rattle.std.proofs.Common.{rules}
use Rattle.lst_past.proofs.past.print_past.Goals as goal

pub returns : goal.returns
returns c = search rules
