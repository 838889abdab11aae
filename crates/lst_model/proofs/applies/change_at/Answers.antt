use Rattle.std.proofs.Common.{rules}
use Rattle.lst_model.proofs.applies.change_at.Goals as goal

pub returns-then-column-len : goal.returns-then-column-len
returns-then-column-len c = search rules
