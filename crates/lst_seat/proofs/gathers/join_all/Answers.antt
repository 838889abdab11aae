use Rattle.std.proofs.Common.{List, sym, subst}
use Rattle.lst_rule.specs.Seats.{Sitting}
use Rattle.lst_seat.proofs.Gathering.{JoinsSo, joins_none, joins_next, next_of}
use Rattle.lst_seat.proofs.gathers.join_all.Goals as goal

pub loop-other-init : goal.loop-other-init
loop-other-init c = subst (λ (left : List Sitting). JoinsSo c.args.store.now c.args.seats c.args.merger.now.view left c.args.merger.now) (sym c.into_vec-items.ensures) (joins_none c.args.store.now c.args.seats c.args.merger.now c.requires.seats c.requires.seat)

pub join_seat-requires-clause-other : goal.join_seat-requires-clause-other
join_seat-requires-clause-other c = next_of c.args.store.now c.loop-other.items.items c.pop.new.self.items c.in-Some.other c.loop-other.invariant.all c.in-Some.ensures.items

pub loop-other-preserved : goal.loop-other-preserved
loop-other-preserved c = joins_next c.args.store.now c.args.seats c.args.merger.now.view c.loop-other.items.items c.pop.new.self.items c.in-Some.other c.loop-other.merger c.join_seat.new.seat c.loop-other.invariant c.in-Some.ensures.items c.requires.merger c.join_seat.ensures.seat c.join_seat.ensures.united c.join_seat.ensures.apart
