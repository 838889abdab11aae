use Rattle.lst_serial.proofs.Freeing.{found_free}
use Rattle.lst_serial.proofs.laws.stale_found_it_free.Goals as goal

pub returns : goal.returns
returns c = found_free
