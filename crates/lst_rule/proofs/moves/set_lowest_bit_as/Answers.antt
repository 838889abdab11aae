use Rattle.std.proofs.Common.{bit_or}
use Rattle.lst_rule.proofs.Allowing.{allows}
use Rattle.lst_rule.proofs.moves.set_lowest_bit_as.Goals as goal

pub fetch_or-requires : goal.fetch_or-requires
fetch_or-requires g c = (c.requires.table.0, c.requires.table.1, allows _ _ _ _ _ g.E.Means.action c.args.word (λ n. bit_or n 1) c.requires.ready)
