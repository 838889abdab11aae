use Rattle.std.proofs.Common.{◌≡◌, ◌+◌, length}
use Rattle.std.specs.List.{All}
use Rattle.lst_work_laws.specs.Runs.{CanRun}
use Rattle.lst_work.specs.Workers.{IsRunningBlocks}
use Rattle.lst_work.proofs.workers.run_blocks.Given as goal

abbrev pub invariant-loop-rest : goal.invariant-loop-rest
invariant-loop-rest g l = IsRunningBlocks l.store l.lines l.rest l.fn.worker l.worker × All (CanRun l.store.layout.limits) l.rest × (l.place + length l.rest ≡ l.fn.first + length l.lines)

abbrev pub decreases-loop-rest : goal.decreases-loop-rest
decreases-loop-rest g l = length l.rest
