use Rattle.std.proofs.Common.{◌-◌, length}
use Rattle.lst_work.specs.Parts.{AreBetween}
use Rattle.lst_work.proofs.scripts.run_phases.Given as goal

abbrev pub invariant-loop-end : goal.invariant-loop-end
invariant-loop-end g l = AreBetween l.store l.level l.lines l.fn.sessions.items l.passes.items l.fn.reads.items l.kept.items l.fn.merger l.merger l.replies.items l.end

abbrev pub decreases-loop-end : goal.decreases-loop-end
decreases-loop-end g l = length l.lines - l.end
