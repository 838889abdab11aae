use Rattle.std.proofs.Common.{◌≡◌, ◌+◌, length}
use Rattle.lst_seat.specs.Rooms.{AreRooms}
use Rattle.lst_seat.proofs.parts.rooms_for.Given as goal

abbrev pub invariant-loop-s : goal.invariant-loop-s
invariant-loop-s l = record { count : length l.rooms.items + l.s ≡ l.seat.view.limits.sessions; rooms : AreRooms l.seat.view l.rooms.items }

abbrev pub decreases-loop-s : goal.decreases-loop-s
decreases-loop-s l = l.s
