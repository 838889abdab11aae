use Rattle.std.proofs.Common.{◌*◌, ◌≤◌}
use Rattle.lst_scan.specs.Savings.{SavesPart}
use Rattle.lst_scan.proofs.Loops.{Adds}
use Rattle.lst_scan.proofs.sums.count.Given as goal

abbrev pub invariant-loop-range : goal.invariant-loop-range
invariant-loop-range l = Adds l.store l.fn.seat.view l.seat l.s (λ _. 1) 0 (256 * l.range) l.rows × (l.range ≤ l.store.layout.limits.ranges) × (l.rows ≤ 512 * l.range) × SavesPart l.fn.seat.view l.seat.view l.s 0 0 (256 * l.range)
