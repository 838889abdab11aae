use Rattle.lst_serial_laws.proofs.Placing.{unchanged_is_placed}
use Rattle.lst_serial_laws.proofs.laws.unchanged_is_placed.Goals as goal

pub returns : goal.returns
returns c = unchanged_is_placed
