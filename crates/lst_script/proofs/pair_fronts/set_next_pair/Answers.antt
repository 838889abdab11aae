use Rattle.std.proofs.Common.{◌≡◌, false, sym, ◌∙◌}
use Rattle.lst_script.specs.Pairs.{is_set}
use Rattle.lst_script.proofs.pair_fronts.set_next_pair.Goals as goal

pub returns : goal.returns
returns c =
    let column = c.in_ok-column.column in
    let free : is_set c.args.changes.now column ≡ false = sym c.is_set.ensures ∙ c.if-is_set.false in
    ((column, c.in_ok-column.cell), c.in_ok-column.ensures.pair, free, c.set.ensures)
