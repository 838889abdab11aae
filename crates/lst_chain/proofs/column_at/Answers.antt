use Rattle.std.proofs.Common.{arith}
use Rattle.std.proofs.lemmas.Grind.{common_steps}
use Rattle.lst_chain.proofs.column_at.Goals as goal

pub returns-in-Some : goal.returns-in-Some
returns-in-Some g c = grind (arith, common_steps)

pub loop-version-preserved : goal.loop-version-preserved
loop-version-preserved g c = grind (arith, common_steps)
