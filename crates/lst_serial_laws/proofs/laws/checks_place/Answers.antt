use Rattle.lst_serial_laws.proofs.Placing.{checks_place}
use Rattle.lst_serial_laws.proofs.laws.checks_place.Goals as goal

pub returns : goal.returns
returns c = checks_place
