use Rattle.lst_model.specs.Cells.{cells_of, patched}
use Rattle.lst_rule.specs.Copies.{Version}
use Rattle.lst_walk.specs.Patches.{merged}
use Rattle.lst_walk.specs.Walks.{Merges}
use Rattle.lst_walk.proofs.rows.set_under.Given as goal

abbrev pub invariant-loop-column : goal.invariant-loop-column
invariant-loop-column l = Merges l.store l.fn.seat.view l.seat l.s l.tail l.column l.fn.patch l.patch (λ (d : Version). merged l.fn.patch (patched l.encoding.mask 0 (cells_of l.encoding.nulls 0 d.values)))
