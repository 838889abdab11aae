use Rattle.std.proofs.Common.{◌≡◌, ◌++◌, replicate}
use Rattle.lst_work.specs.Orders.{placeholder}
use Rattle.lst_work.proofs.orders.make_room.Given as goal

abbrev pub invariant-loop : goal.invariant-loop
invariant-loop l = l.replies.items ≡ l.fn.replies.items ++ replicate l.counter placeholder
