use Rattle.std.proofs.Common.{arith}
use Rattle.std.proofs.lemmas.Grind.{common_steps}
use Rattle.lst_core_pages.proofs.page_core.change_hands.Goals as goal

pub returns-in-Unpin : goal.returns-in-Unpin
returns-in-Unpin c = grind (arith, common_steps)
