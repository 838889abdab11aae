use Rattle.lst_replies.proofs.Sequences.{cells_before}
use Rattle.lst_replies.proofs.backward.write_cells.Goals as goal

pub returns-clause-written : goal.returns-clause-written
returns-clause-written c = cells_before c.args.between c.args.row.now c.cell.result _ _ _ c.cell.ensures c.write_further-at.ensures.written c.write_cell.ensures.written
