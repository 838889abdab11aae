use Rattle.lst_scan.proofs.Dividing.{parts_add_up, records_add_up, cells_stay}
use Rattle.lst_scan.proofs.laws.sums_add_up.Goals as goal

pub returns-clause-parts : goal.returns-clause-parts
returns-clause-parts c = parts_add_up

pub returns-clause-records : goal.returns-clause-records
returns-clause-records c = records_add_up

pub returns-clause-stay : goal.returns-clause-stay
returns-clause-stay c = cells_stay
