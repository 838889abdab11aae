use Rattle.std.proofs.Common.{◌*◌, ◌≤◌}
use Rattle.lst_scan.proofs.Loops.{Collects, AreUpTo}
use Rattle.lst_scan.proofs.lists.rows.Given as goal

abbrev pub invariant-loop-number : goal.invariant-loop-number
invariant-loop-number l = Collects l.store l.fn.seat.view l.seat l.s l.number l.found.items × (l.number ≤ 256 * l.store.layout.limits.ranges) × AreUpTo l.last l.found.items
