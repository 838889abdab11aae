use Rattle.std.proofs.Common.{◌+◌, ◌-◌, ◌*◌, ◌≤◌}
use Rattle.lst_scan.specs.Savings.{SavesPart}
use Rattle.lst_scan.proofs.Loops.{Adds}
use Rattle.lst_scan.proofs.sums.count_by_records.Given as goal

abbrev pub invariant-loop-number : goal.invariant-loop-number
invariant-loop-number l = Adds l.store l.fn.seat.view l.seat l.s (λ _. 1) (256 * l.range) l.number l.rows × (l.number ≤ 256 * (l.range + 1)) × (l.rows ≤ l.number - 256 * l.range) × SavesPart l.fn.seat.view l.seat.view l.s 0 (256 * l.range) l.number
