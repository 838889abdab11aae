use Rattle.lst_rule.proofs.table_seats.unite_seats.Given as goal

abbrev pub ghosts-unite_seats_as : goal.ghosts-unite_seats_as
ghosts-unite_seats_as a = record { limits = a._limits.now }
