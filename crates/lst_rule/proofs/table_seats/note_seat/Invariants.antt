use Rattle.lst_rule.proofs.table_seats.note_seat.Given as goal

abbrev pub ghosts-note_seat_as : goal.ghosts-note_seat_as
ghosts-note_seat_as a = record { session = a._s }
