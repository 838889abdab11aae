use Rattle.std.proofs.Common.{arith}
use Rattle.std.proofs.lemmas.Grind.{common_steps}
use Rattle.lst_pages.proofs.frames.entry_with.Goals as goal

pub returns-then-is_null : goal.returns-then-is_null
returns-then-is_null c = grind (arith, common_steps)
