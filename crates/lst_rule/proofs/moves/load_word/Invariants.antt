use Rattle.lst_rule.proofs.moves.load_word.Given as goal

abbrev pub ghosts-load_word_as : goal.ghosts-load_word_as
ghosts-load_word_as a = record { action = a._action }
