use Rattle.std.proofs.Common.{length}
use Rattle.lst_work.proofs.Hires.{IsHiring}
use Rattle.lst_work.proofs.hiring.hired.Given as goal

abbrev pub invariant-loop-alloc : goal.invariant-loop-alloc
invariant-loop-alloc l = IsHiring l.fn.level l.fn.sessions.items l.rest.items l.fn.reads.items l.kept.items l.workers.items

abbrev pub decreases-loop-alloc : goal.decreases-loop-alloc
decreases-loop-alloc l = length l.rest.items
