use Rattle.lst_walk.specs.Packed.{skims_same}
use Rattle.lst_walk.proofs.pages.cell_of.Goals as goal

pub returns-else-entry-clause-skims : goal.returns-else-entry-clause-skims
returns-else-entry-clause-skims c = skims_same c.args.seat.now.view c.args.s
