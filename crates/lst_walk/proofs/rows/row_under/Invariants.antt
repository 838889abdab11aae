use Rattle.lst_model.specs.Cells.{cells_of, overlaid}
use Rattle.lst_rule.specs.Copies.{Version}
use Rattle.lst_walk.specs.Walks.{Fills}
use Rattle.lst_walk.proofs.rows.row_under.Given as goal

abbrev pub invariant-loop-column : goal.invariant-loop-column
invariant-loop-column l = Fills l.store l.fn.seat.view l.seat l.s l.tail l.column l.row (λ (d : Version). overlaid (cells_of l.nulls 0 d.values) l.patch)
