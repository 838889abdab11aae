use Rattle.std.proofs.Common.{◌≡◌, ◌+◌, length}
use Rattle.std.specs.List.{All}
use Rattle.lst_work_laws.specs.Runs.{CanRun}
use Rattle.lst_work.specs.Merges.{IsMergingBlocks}
use Rattle.lst_work.proofs.merging.merge_blocks.Given as goal

abbrev pub invariant-loop-rest : goal.invariant-loop-rest
invariant-loop-rest g l = IsMergingBlocks l.store l.lines l.rest l.fn.merger l.merger l.fn.queue l.queue × All (CanRun l.store.layout.limits) l.rest × (l.place + length l.rest ≡ l.fn.first + length l.lines)

abbrev pub decreases-loop-rest : goal.decreases-loop-rest
decreases-loop-rest g l = length l.rest
