use Rattle.std.proofs.Common.{rules}
use Rattle.lst_retire.proofs.pins.unpin.Goals as goal

pub returns-clause-unpins : goal.returns-clause-unpins
returns-clause-unpins c = search rules
