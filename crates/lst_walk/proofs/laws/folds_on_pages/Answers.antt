use Rattle.lst_walk.proofs.Entered.{entries_are_older, folds_on_pages}
use Rattle.lst_walk.proofs.laws.folds_on_pages.Goals as goal

pub returns-clause-entries : goal.returns-clause-entries
returns-clause-entries c = entries_are_older

pub returns-clause-cells : goal.returns-clause-cells
returns-clause-cells c = folds_on_pages
