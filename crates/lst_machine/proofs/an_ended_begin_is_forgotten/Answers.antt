use Rattle.lst_machine.proofs.Orders.{order_is_forgotten}
use Rattle.lst_machine.proofs.an_ended_begin_is_forgotten.Goals as goal

pub returns : goal.returns
returns c = order_is_forgotten
