use Rattle.lst_rule.proofs.moves.store_word.Given as goal

abbrev pub ghosts-store_word_as : goal.ghosts-store_word_as
ghosts-store_word_as a = record { action = a._action }
