use Rattle.lst_scan.proofs.Folded.{chain_saves}
use Rattle.lst_scan.proofs.Seeing.{cell_on}
use Rattle.lst_scan.proofs.records.cell_by_chain.Goals as goal

pub returns-clause-cell : goal.returns-clause-cell
returns-clause-cell c = cell_on c.args.seat.now.view c.args.s c.args.rec.number c.args.c c.column_by_chain.result c.column_by_chain.ensures.cell

pub returns-clause-saves : goal.returns-clause-saves
returns-clause-saves c = chain_saves c.args.seat.now.view c.column_by_chain.new.seat.view c.args.s c.args.rec.number c.args.c c.column_by_chain.ensures.saves c.column_by_chain.ensures.loads
