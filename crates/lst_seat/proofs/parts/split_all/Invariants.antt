use Rattle.std.proofs.Common.{◌≡◌, ◌+◌, ◌≤◌, length, vec_len, vec_capacity}
use Rattle.lst_seat.specs.Rooms.{AreRooms}
use Rattle.lst_seat.proofs.Parting.{PartsSo}
use Rattle.lst_seat.proofs.parts.split_all.Given as goal

abbrev pub invariant-loop-room : goal.invariant-loop-room
invariant-loop-room l = record {
  count : length l.rooms.items + l.s ≡ l.fn.seat.view.limits.sessions;
  rooms : AreRooms l.fn.seat.view l.rooms.items;
  so : PartsSo l.store l.fn.seat.view l.seats.items l.seat l.s;
  placed : vec_len l.seats ≡ l.s;
  wide : l.fn.seat.view.limits.sessions ≤ vec_capacity l.seats;
}

abbrev pub decreases-loop-room : goal.decreases-loop-room
decreases-loop-room l = vec_len l.rooms
