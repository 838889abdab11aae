use Rattle.std.proofs.Common.{vec_len, vec_capacity}
use Rattle.std.specs.Vec.Iter.{into_iter_items}
use Rattle.lst_session.proofs.Gathering.{SeatsSo}
use Rattle.lst_session.proofs.gathers.seats_of.Given as goal

abbrev pub invariant-loop-session : goal.invariant-loop-session
invariant-loop-session l = (goal.iterator-loop-session).can_next l.session-iterator × (goal.iterator-loop-session).is_finite l.session-iterator × SeatsSo l.fn.sessions l.yielded (into_iter_items l.session-iterator) l.seats.items (vec_len l.seats) (vec_capacity l.seats)
