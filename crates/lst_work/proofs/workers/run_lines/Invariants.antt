use Rattle.lst_work.specs.Workers.{IsRunning}
use Rattle.lst_work.proofs.workers.run_lines.Given as goal

abbrev pub invariant-loop-i : goal.invariant-loop-i
invariant-loop-i g l = IsRunning l.store l.lines l.fn.worker l.worker l.i
