use Rattle.std.proofs.Common.{◌-◌}
use Rattle.lst_retire.proofs.Looking.{LooksOn}
use Rattle.lst_retire.proofs.frees.first_holder.Given as goal

abbrev pub invariant-loop-session : goal.invariant-loop-session
invariant-loop-session l = LooksOn l.store l.fn.seat.view l.seat l.epoch l.session

abbrev pub decreases-loop-session : goal.decreases-loop-session
decreases-loop-session l = l.sessions - l.session
