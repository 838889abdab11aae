use Rattle.lst_serial_laws.proofs.Ending.{ends_are_legal}
use Rattle.lst_serial_laws.proofs.laws.ends_are_legal.Goals as goal

pub returns : goal.returns
returns c = ends_are_legal
