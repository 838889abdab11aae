use Rattle.std.proofs.Common.{rules}
use Rattle.lst_core_pages.proofs.queue.FrameQueue.may_build.Goals as goal

pub returns-then-is_oldest : goal.returns-then-is_oldest
returns-then-is_oldest c = search rules
