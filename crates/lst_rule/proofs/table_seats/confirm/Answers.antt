use Rattle.lst_rule.proofs.Seating.{confirms}
use Rattle.lst_rule.proofs.table_seats.confirm.Goals as goal

pub load-requires : goal.load-requires
load-requires c = (c.requires.table.0, c.requires.table.1, confirms _ _ _ _ _)
