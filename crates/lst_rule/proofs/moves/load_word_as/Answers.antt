use Rattle.lst_rule.proofs.Allowing.{allows}
use Rattle.lst_rule.proofs.moves.load_word_as.Goals as goal

pub load-requires : goal.load-requires
load-requires g c = (c.requires.table.0, c.requires.table.1, allows _ _ _ _ _ g.E.Means.action c.args.word (λ n. n) c.requires.ready)
