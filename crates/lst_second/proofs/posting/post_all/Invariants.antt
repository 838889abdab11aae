use Rattle.std.proofs.Common.{◌-◌}
use Rattle.lst_rule.specs.Posting.{Posts}
use Rattle.lst_second.specs.Visits.{Columns}
use Rattle.lst_second.proofs.posting.post_all.Given as goal

abbrev pub invariant-loop-column : goal.invariant-loop-column
invariant-loop-column l = Posts l.fn.seat.view l.seat.view l.s × Columns l.store l.seat l.s l.column

abbrev pub decreases-loop-column : goal.decreases-loop-column
decreases-loop-column l = l.store.layout.limits.columns - l.column
