use Rattle.std.proofs.Common.{rules}
use Rattle.lst_rule.proofs.joins.lengthened.Goals as goal

pub returns-then-now-time : goal.returns-then-now-time
returns-then-now-time c = search rules
