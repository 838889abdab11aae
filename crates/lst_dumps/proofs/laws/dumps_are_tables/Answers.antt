use Rattle.lst_dumps.proofs.Dumps.{dumps_are_tables}
use Rattle.lst_dumps.proofs.laws.dumps_are_tables.Goals as goal

pub returns : goal.returns
returns c = dumps_are_tables
