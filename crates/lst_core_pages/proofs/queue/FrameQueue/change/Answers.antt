use Rattle.std.proofs.Common.{arith}
use Rattle.std.proofs.lemmas.Grind.{common_steps}
use Rattle.lst_core_pages.proofs.queue.FrameQueue.change.Goals as goal

pub returns-in-Swap : goal.returns-in-Swap
returns-in-Swap c = grind (arith, common_steps)
