use Rattle.std.proofs.Common.{rules}
use Rattle.lst_options.proofs.level.level_of_text.Goals as goal

pub returns-in-None : goal.returns-in-None
returns-in-None c = search rules
