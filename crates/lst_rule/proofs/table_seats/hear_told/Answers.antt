use Rattle.lst_rule.proofs.Hearing.{hears_allows}
use Rattle.lst_rule.proofs.table_seats.hear_told.Goals as goal

pub load-requires : goal.load-requires
load-requires c = (c.requires.table.0, c.requires.table.1, hears_allows _ _ _ _ _)
