use Rattle.lst_rule.proofs.moves.add_one.Given as goal

abbrev pub ghosts-add_one_as : goal.ghosts-add_one_as
ghosts-add_one_as a = record { action = a._action }
