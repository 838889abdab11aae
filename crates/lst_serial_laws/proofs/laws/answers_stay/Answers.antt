use Rattle.lst_serial_laws.proofs.Staying.{answers_stay}
use Rattle.lst_serial_laws.proofs.laws.answers_stay.Goals as goal

pub returns : goal.returns
returns c = answers_stay
