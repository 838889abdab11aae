use Rattle.std.proofs.Common.{vec_len, vec_capacity}
use Rattle.std.specs.Vec.Iter.{into_iter_items}
use Rattle.lst_session.proofs.Parting.{NumbersSo}
use Rattle.lst_session.proofs.parts.numbered.Given as goal

abbrev pub invariant-loop-seat : goal.invariant-loop-seat
invariant-loop-seat l = (goal.iterator-loop-seat).can_next l.seat-iterator × (goal.iterator-loop-seat).is_finite l.seat-iterator × NumbersSo l.fn.seats l.yielded (into_iter_items l.seat-iterator) l.passes.items l.number (vec_len l.passes) (vec_capacity l.passes)
