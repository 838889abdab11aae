use Rattle.std.proofs.Common.{rules}
use Rattle.lst_serial_laws.proofs.reads.key_of_call.Goals as goal

pub returns-in-Insert : goal.returns-in-Insert
returns-in-Insert c = search rules

pub returns-in_default : goal.returns-in_default
returns-in_default c = search rules
