use Rattle.lst_rule.proofs.Allowing.{allows_store}
use Rattle.lst_rule.proofs.moves.store_word_as.Goals as goal

pub store-requires : goal.store-requires
store-requires g c = (c.requires.table.0, c.requires.table.1, allows_store _ _ _ _ g.E.Means.action c.args.word c.args.new c.requires.ready)
