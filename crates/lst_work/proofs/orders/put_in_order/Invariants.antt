use Rattle.std.proofs.Common.{◌≡◌, length, map, take}
use Rattle.lst_work.specs.Orders.{IsOrdering}
use Rattle.lst_work.proofs.orders.put_in_order.Given as goal

abbrev pub invariant-loop-i : goal.invariant-loop-i
invariant-loop-i l = IsOrdering l.sessions l.lines l.fn.queues l.queues (take l.i l.places) l.i × (length l.places ≡ length l.fn.places)
