use Rattle.std.proofs.Common.{rules}
use Rattle.lst_historic.proofs.writing.code_of.Goals as goal

pub returns-then-difference : goal.returns-then-difference
returns-then-difference c = search rules
