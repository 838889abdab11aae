use Rattle.lst_walk.proofs.Folding.{folds_stay, folds_are_numbers}
use Rattle.lst_walk.proofs.laws.folds_are_numbers.Goals as goal

pub returns-clause-stay : goal.returns-clause-stay
returns-clause-stay c = folds_stay

pub returns-clause-numbers : goal.returns-clause-numbers
returns-clause-numbers c = folds_are_numbers
