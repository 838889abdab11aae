use Rattle.lst_script.proofs.Beginnings.{numbered_column_here}
use Rattle.lst_script.proofs.fronts.numbered_column_in_front.Goals as goal

pub returns : goal.returns
returns c = numbered_column_here c.args.count c.args.text.now c.in_ok-number.after.now _ c.in_ok-number.number c.in_ok-column.column c.args.end c.in_ok-number.ensures c.in_ok-column.ensures.is c.in_ok-column.ensures.within c.in_ok-behind_byte.ensures
