use Rattle.std.proofs.Common.{rules}
use Rattle.lst_serial.proofs.serial.Serial.forget.Goals as goal

pub returns-clause-empty : goal.returns-clause-empty
returns-clause-empty c = search rules
