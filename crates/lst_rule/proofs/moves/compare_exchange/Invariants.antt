use Rattle.lst_rule.proofs.moves.compare_exchange.Given as goal

abbrev pub ghosts-compare_exchange_as : goal.ghosts-compare_exchange_as
ghosts-compare_exchange_as a = record { action = a._action }
