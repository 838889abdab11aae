use Rattle.lst_chain.proofs.Columns.{acts-is}
use Rattle.lst_chain.proofs.laws.acts_in_order.Goals as goal

pub returns : goal.returns
returns g c = acts-is
