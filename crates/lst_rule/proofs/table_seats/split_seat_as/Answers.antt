use Rattle.lst_rule.proofs.Parting.{parts}
use Rattle.lst_rule.proofs.table_seats.split_seat_as.Goals as goal

pub split_seat-requires : goal.split_seat-requires
split_seat-requires g c = (c.requires.table.0, c.requires.table.1, parts _ _ _ g.E.Chooses.session c.requires.host)
