use Rattle.std.proofs.Common.{◌-◌, List, [], ◌∷◌, length, sym, subst, ap, ◌∙◌, arith, length-append}
use Rattle.lst_layout.specs.declared.limits.Limits.{Limits}
use Rattle.lst_rule.specs.declared.splits.Room.{Room}
use Rattle.lst_seat.specs.Rooms.{AreRooms}
use Rattle.lst_seat.proofs.Parting.{rooms_none, rooms_next}
use Rattle.lst_seat.proofs.parts.rooms_for.Goals as goal

pub loop-s-init : goal.loop-s-init
loop-s-init c = record {
  count = let none = ap (λ (rooms : List Room). length rooms) c.new-rooms.ensures.items in let same = ap (λ (l : Limits). l.sessions) c.limits.ensures in omega arith;
  rooms = subst (AreRooms c.args.seat.now.view) (sym c.new-rooms.ensures.items) (rooms_none c.args.seat.now.view);
}

pub room_for-requires : goal.room_for-requires
room_for-requires c = record { host = c.requires (c.loop-s.s - 1) (let count = c.loop-s.invariant.count in omega arith) }

pub loop-s-preserved : goal.loop-s-preserved
loop-s-preserved c = record {
  count = let longer = ap (λ (rooms : List Room). length rooms) c.in_ok-push.ensures.items ∙ length-append c.loop-s.rooms.items (c.in_ok-room.room ∷ []) in let count = c.loop-s.invariant.count in let more = c.loop-s-test.true in omega arith;
  rooms = subst (AreRooms c.args.seat.now.view) (sym c.in_ok-push.ensures.items)
      (rooms_next c.args.seat.now.view c.loop-s.rooms.items c.in_ok-room.room (c.loop-s.s - 1) (let count = c.loop-s.invariant.count in let more = c.loop-s-test.true in omega arith) c.loop-s.invariant.rooms c.in_ok-room.ensures.serves);
}

pub returns-clause-count : goal.returns-clause-count
returns-clause-count c = let count = c.loop-s.invariant.count in let last = c.loop-s-test.false in omega arith

pub returns-clause-serve : goal.returns-clause-serve
returns-clause-serve c = c.loop-s.invariant.rooms
