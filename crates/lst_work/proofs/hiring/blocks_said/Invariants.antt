use Rattle.std.proofs.Common.{length, map}
use Rattle.lst_work.proofs.Parting.{IsParting}
use Rattle.lst_work.proofs.hiring.blocks_said.Given as goal

abbrev pub invariant-loop-alloc : goal.invariant-loop-alloc
invariant-loop-alloc l = IsParting l.fn.workers.items l.workers.items l.fn.merges.items l.rest.items l.blocks.items

abbrev pub decreases-loop-alloc : goal.decreases-loop-alloc
decreases-loop-alloc l = length l.rest.items
