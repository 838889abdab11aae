use Rattle.std.proofs.Common.{rules}
use Rattle.lst_serial_laws.proofs.reads.reads_table.Goals as goal

pub returns-in_default : goal.returns-in_default
returns-in_default c = search rules
