use Rattle.std.proofs.Common.{◌+◌, ◌%◌, ◌^◌}
use Rattle.lst_rule.proofs.Allowing.{allows}
use Rattle.lst_rule.proofs.moves.add_one_as.Goals as goal

pub fetch_add-requires : goal.fetch_add-requires
fetch_add-requires g c = (c.requires.table.0, c.requires.table.1, allows _ _ _ _ _ g.E.Means.action c.args.word (λ n. (n + 1) % 2 ^ 64) c.requires.ready)
