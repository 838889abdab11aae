use Rattle.std.proofs.Common.{◌-◌}
use Rattle.lst_merge.proofs.Ending.{EndsOn}
use Rattle.lst_merge.proofs.runs.run_end.Given as goal

abbrev pub invariant-loop-end : goal.invariant-loop-end
invariant-loop-end l = EndsOn l.store l.fn.seat.view l.seat l.range l.column l.tps l.count l.end

abbrev pub decreases-loop-end : goal.decreases-loop-end
decreases-loop-end l = l.last - l.end
