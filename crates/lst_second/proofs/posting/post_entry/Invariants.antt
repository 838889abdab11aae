use Rattle.std.proofs.Common.{◌-◌}
use Rattle.lst_rule.specs.Posting.{Posts}
use Rattle.lst_second.specs.Visits.{Visits}
use Rattle.lst_second.proofs.posting.post_entry.Given as goal

abbrev pub invariant-loop-offset : goal.invariant-loop-offset
invariant-loop-offset l = Posts l.fn.seat.view l.seat.view l.s × Visits l.store l.seat l.s l.entry l.offset

abbrev pub decreases-loop-offset : goal.decreases-loop-offset
decreases-loop-offset l = l.all - l.offset
