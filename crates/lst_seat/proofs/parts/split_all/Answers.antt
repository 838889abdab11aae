use Rattle.std.proofs.Common.{◌≤◌, ◌+◌, ℕ, List, sym, subst, ap, ◌∙◌, arith}
use Rattle.lst_layout.specs.declared.limits.Limits.{Limits}
use Rattle.lst_rule.specs.Seats.{Sitting}
use Rattle.lst_seat.proofs.Parting.{PartsSo, one_less, rooms_left, serves_next, rest_hosts, serves_rest, parts_none, parts_next, parts_all}
use Rattle.lst_seat.proofs.parts.split_all.Goals as goal

pub loop-room-preserved : goal.loop-room-preserved
loop-room-preserved c = let less = one_less c.args.seat.now.view c.loop-room.rooms.items c.pop.new.self.items c.in-Some.room c.in-Some.ensures.items c.loop-room.invariant.rooms in let count = c.loop-room.invariant.count in record {
  count = omega arith;
  rooms = rooms_left c.args.seat.now.view c.loop-room.rooms.items c.pop.new.self.items c.in-Some.room c.in-Some.ensures.items c.loop-room.invariant.rooms;
  so = subst (λ (seats : List Sitting). PartsSo c.args.store.now c.args.seat.now.view seats c.split_off-own.new.seat (c.loop-room.s + 1)) (sym c.push_reserved.ensures.items)
      (parts_next c.args.store.now c.args.seat.now.view c.loop-room.seats.items c.loop-room.seat c.loop-room.s c.loop-room.invariant.so (omega arith) (c.requires.all c.loop-room.s (omega arith)) c.split_off-own.result c.split_off-own.new.seat c.split_off-own.ensures.new c.split_off-own.ensures.old c.split_off-own.ensures.session c.split_off-own.ensures.rest);
  placed = c.push_reserved.ensures.len ∙ ap (λ (n : ℕ). n + 1) c.loop-room.invariant.placed;
  wide = subst (λ (n : ℕ). c.args.seat.now.view.limits.sessions ≤ n) (sym c.push_reserved.ensures.capacity) c.loop-room.invariant.wide;
}

pub loop-room-init : goal.loop-room-init
loop-room-init c = record {
  count = let count = c.requires.memory.count in omega arith;
  rooms = c.requires.memory.rooms;
  so = subst (λ (seats : List Sitting). PartsSo c.args.store.now c.args.seat.now.view seats c.args.seat.now 0) (sym c.requires.memory.none) (parts_none c.args.store.now c.args.seat.now c.requires.seat);
  placed = c.requires.memory.empty;
  wide = c.requires.memory.wide;
}

pub split_off-own-requires-clause-seat : goal.split_off-own-requires-clause-seat
split_off-own-requires-clause-seat c = c.loop-room.invariant.so.seat_of

pub split_off-own-requires-clause-host : goal.split_off-own-requires-clause-host
split_off-own-requires-clause-host c = rest_hosts c.args.store.now c.args.seat.now.view c.loop-room.seats.items c.loop-room.seat c.loop-room.s c.loop-room.invariant.so c.loop-room.s (omega arith) ∙ c.requires.all c.loop-room.s (let count = c.loop-room.invariant.count in omega arith)

pub split_off-own-requires-clause-room : goal.split_off-own-requires-clause-room
split_off-own-requires-clause-room c = serves_rest c.args.store.now c.args.seat.now.view c.loop-room.seats.items c.loop-room.seat c.loop-room.s c.loop-room.invariant.so c.in-Some.room c.loop-room.s
    (serves_next c.args.seat.now.view c.loop-room.rooms.items c.pop.new.self.items c.in-Some.room c.in-Some.ensures.items c.loop-room.invariant.rooms c.loop-room.s c.loop-room.invariant.count)

pub returns : goal.returns
returns c = parts_all c.args.store.now c.args.seat.now.view c.loop-room.seats.items c.loop-room.seat c.loop-room.s c.loop-room.invariant.so
    (let none = c.in_default.ensures.cases.0 in let items = c.loop-room.rooms.ok.0 in let count = c.loop-room.invariant.count in omega arith)
    c.requires.all
    (λ t on. subst (λ (l : Limits). t ≤ l.sessions) (sym c.requires.seat.limits) (c.requires.seat.low t on))
