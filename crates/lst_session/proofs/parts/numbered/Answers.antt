use Rattle.std.specs.Vec.Iter.{into_iter_items}
use Rattle.std.proofs.Common.{vec_len, vec_capacity}
use Rattle.lst_session.proofs.Parting.{numbers_next}
use Rattle.lst_session.proofs.parts.numbered.Goals as goal

pub loop-seat-preserved : goal.loop-seat-preserved
loop-seat-preserved c = let at = c.loop-seat in (
  tt,
  tt,
  numbers_next c.args.seats at.yielded (into_iter_items at.seat-iterator) (into_iter_items c.next.new.self) c.in-Some.seat at.passes.items c.push_reserved.new.self.items at.number (vec_len at.passes) (vec_len c.push_reserved.new.self) (vec_capacity at.passes) (vec_capacity c.push_reserved.new.self)
      at.invariant.2 c.in-Some.ensures.steps.0 c.push_reserved.ensures.items c.push_reserved.ensures.len c.push_reserved.ensures.capacity,
)
