use Rattle.std.proofs.Common.{vec_len}
use Rattle.lst_seat.proofs.Gathering.{JoinsSo}
use Rattle.lst_seat.proofs.gathers.join_all.Given as goal

abbrev pub invariant-loop-other : goal.invariant-loop-other
invariant-loop-other l = JoinsSo l.store l.fn.seats l.fn.merger.view l.items.items l.merger

abbrev pub decreases-loop-other : goal.decreases-loop-other
decreases-loop-other l = vec_len l.items
