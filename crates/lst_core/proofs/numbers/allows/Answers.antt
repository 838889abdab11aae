use Rattle.std.proofs.Common.{rules}
use Rattle.lst_core.proofs.numbers.allows.Goals as goal

pub returns-in-Clock : goal.returns-in-Clock
returns-in-Clock c = search rules
