use Rattle.lst_work_laws.proofs.Ended.{tails_are_written}
use Rattle.lst_work_laws.proofs.laws.tails_are_written.Goals as goal

pub returns : goal.returns
returns c = tails_are_written
