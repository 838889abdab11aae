use Rattle.lst_rule.proofs.Parting.{notes}
use Rattle.lst_rule.proofs.table_seats.note_seat_as.Goals as goal

pub split_seat-requires : goal.split_seat-requires
split_seat-requires g c = (c.requires.table.0, c.requires.table.1, notes _ _ _ g.E.Chooses.session c.requires.host)
