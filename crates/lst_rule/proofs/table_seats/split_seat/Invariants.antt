use Rattle.lst_rule.proofs.table_seats.split_seat.Given as goal

abbrev pub ghosts-split_seat_as : goal.ghosts-split_seat_as
ghosts-split_seat_as a = record { session = a._s }
