use Rattle.std.proofs.Common.{◌+◌, ◌-◌, ◌*◌, ◌≤◌, ◌^◌}
use Rattle.lst_model.specs.Cells.{number_at}
use Rattle.lst_scan.specs.Savings.{SavesPart}
use Rattle.lst_scan.proofs.Loops.{Adds}
use Rattle.lst_scan.proofs.sums.sum_by_records.Given as goal

abbrev pub invariant-loop-number : goal.invariant-loop-number
invariant-loop-number l = Adds l.store l.fn.seat.view l.seat l.s (number_at l.c) (256 * l.range) l.number l.total × (l.number ≤ 256 * (l.range + 1)) × (l.total ≤ (l.number - 256 * l.range) * 2 ^ 64) × (SavesPart l.fn.seat.view l.seat.view l.s l.c (256 * l.range) l.number)
