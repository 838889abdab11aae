use Rattle.std.proofs.Common.{rules}
use Rattle.lst_pack.proofs.single.referred_value.Goals as goal

pub returns-clause-value : goal.returns-clause-value
returns-clause-value g c = search rules
