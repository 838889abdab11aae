use Rattle.std.proofs.Common.{arith}
use Rattle.lst_log.proofs.read.is_width.Goals as goal

pub returns-clause-low : goal.returns-clause-low
returns-clause-low c = λ i. omega (arith, c.type_inv.numbers i)
