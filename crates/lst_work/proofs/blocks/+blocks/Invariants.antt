use Rattle.std.proofs.Common.{◌+◌, ◌*◌, length}
use Rattle.lst_work.proofs.blocks.+blocks.Given as goal

abbrev pub decreases-order_blocks : goal.decreases-order_blocks
decreases-order_blocks g l = 4 * length l.blocks.now

abbrev pub decreases-order_beside : goal.decreases-order_beside
decreases-order_beside g l = 4 * length l.others.now + 2

abbrev pub decreases-order_beside-more : goal.decreases-order_beside-more
decreases-order_beside-more g l = 4 * length l.others.now + 1
