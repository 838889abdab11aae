use Rattle.lst_walk.proofs.Arrays.{copies_are_cut, arrays_are_folds}
use Rattle.lst_walk.proofs.Numbered.{folds_are_cells}
use Rattle.lst_walk.proofs.laws.folds_are_cells.Goals as goal

pub returns-clause-cut : goal.returns-clause-cut
returns-clause-cut c = copies_are_cut

pub returns-clause-cells : goal.returns-clause-cells
returns-clause-cells c = folds_are_cells

pub returns-clause-arrays : goal.returns-clause-arrays
returns-clause-arrays c = arrays_are_folds
