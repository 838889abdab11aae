use Rattle.std.proofs.Common.{◌==◌}
use prog.Atomic.{either}
use Rattle.lst_rule.proofs.Allowing.{allows}
use Rattle.lst_rule.proofs.moves.compare_exchange_as.Goals as goal

pub compare_exchange-requires : goal.compare_exchange-requires
compare_exchange-requires g c = (c.requires.table.0, c.requires.table.1, allows _ _ _ _ _ g.E.Means.action c.args.word (λ n. either (n == c.args.old) c.args.new n) c.requires.ready)
