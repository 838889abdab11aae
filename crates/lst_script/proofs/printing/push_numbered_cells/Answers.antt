use Rattle.std.proofs.Common.{◌++◌, ◌∷◌, flat_map}
use Rattle.lst_script.specs.Canonical.{cell_word}
use Rattle.lst_script.proofs.Appended.{one_more}
use Rattle.lst_script.proofs.printing.push_numbered_cells.Goals as goal

pub loop-column-preserved : goal.loop-column-preserved
loop-column-preserved c = one_more (λ cell. 32 ∷ cell_word cell) c.args.row.now c.loop-column.column c.cell.result c.loop-column.bytes.items c.push_cell.new.bytes.items
    (c.args.bytes.now.items ++ flat_map (λ cell. 32 ∷ cell_word cell) c.args.row.now) c.cell.ensures c.in_ok-push_cell.ensures c.loop-column.invariant
