use Rattle.std.proofs.Common.{rules}
use Rattle.lst_seat.proofs.parts.part.Goals as goal

pub returns-in-Err-clause-refused : goal.returns-in-Err-clause-refused
returns-in-Err-clause-refused c = search rules
