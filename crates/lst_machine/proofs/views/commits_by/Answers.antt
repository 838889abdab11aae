use Rattle.std.proofs.Common.{rules}
use Rattle.lst_machine.proofs.views.commits_by.Goals as goal

pub returns : goal.returns
returns c = search rules
