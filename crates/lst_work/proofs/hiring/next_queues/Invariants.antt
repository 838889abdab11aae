use Rattle.std.proofs.Common.{map}
use Rattle.lst_work.proofs.Parting.{IsTaking}
use Rattle.lst_work.proofs.hiring.next_queues.Given as goal

abbrev pub invariant-loop-i : goal.invariant-loop-i
invariant-loop-i l = IsTaking l.fn.workers.items l.workers.items l.queues.items l.i
