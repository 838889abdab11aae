use Rattle.std.proofs.Common.{rules}
use Rattle.lst_pack.proofs.survey.width_of.Goals as goal

pub returns-then-difference-3 : goal.returns-then-difference-3
returns-then-difference-3 c = search rules
