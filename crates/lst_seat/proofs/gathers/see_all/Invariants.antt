use Rattle.std.proofs.Common.{◌-◌, ◌≤◌}
use Rattle.lst_rule.specs.Stores.{IsSeatOf}
use Rattle.lst_seat.specs.Seats.{SeesAll}
use Rattle.lst_seat.proofs.gathers.see_all.Given as goal

abbrev pub invariant-loop-s : goal.invariant-loop-s
invariant-loop-s l = record { low : l.s ≤ l.sessions; seat_of : IsSeatOf l.store l.seat; sees : SeesAll l.fn.seat.view l.seat.view l.s }

abbrev pub decreases-loop-s : goal.decreases-loop-s
decreases-loop-s l = l.sessions - l.s
