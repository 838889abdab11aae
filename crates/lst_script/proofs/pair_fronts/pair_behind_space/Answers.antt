use Rattle.lst_script.proofs.PairFronts.{pair_here}
use Rattle.lst_script.proofs.pair_fronts.pair_behind_space.Goals as goal

pub returns-clause-pair : goal.returns-clause-pair
returns-clause-pair c = pair_here c.args.names.now c.requires.proper c.args.text.now c.in_ok-pair.pair.now c.in_ok-column.word.now c.in_ok-cell.rest.now c.in_ok-column.column c.in_ok-cell.cell c.in_ok-pair.ensures c.in_ok-column.ensures c.in_ok-cell.ensures

pub returns-clause-within : goal.returns-clause-within
returns-clause-within c = c.in_ok-column.ensures.within
