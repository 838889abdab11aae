use Rattle.lst_rule.proofs.moves.set_lowest_bit.Given as goal

abbrev pub ghosts-set_lowest_bit_as : goal.ghosts-set_lowest_bit_as
ghosts-set_lowest_bit_as a = record { action = a._action }
