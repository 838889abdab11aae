use Rattle.lst_work_laws.proofs.Keeping.{lines_carry_on}
use Rattle.lst_work_laws.proofs.laws.lines_carry_on.Goals as goal

pub returns : goal.returns
returns c = lines_carry_on
