use Rattle.std.proofs.Common.{map, sym, ap, ◌∙◌}
use Rattle.std.specs.Prelude.{Some, None, Option, unwrap_or}
use Rattle.lst_model.specs.Cells.{Cell}
use Rattle.lst_walk.proofs.Lists.{take_more, filled_at}
use Rattle.lst_walk.proofs.rows.row_of.Goals as goal

pub loop-column-preserved : goal.loop-column-preserved
loop-column-preserved c = c.push.ensures ∙ take_more c.loop-column.row (map (λ (cell : Option Cell). unwrap_or cell None) c.args.patch.now) c.loop-column.column c.unwrap_or.result c.loop-column.invariant (filled_at c.args.patch.now c.loop-column.column c.loop-column-test.true ∙ ap (λ (x : Cell). Some x) (sym c.unwrap_or.ensures))
