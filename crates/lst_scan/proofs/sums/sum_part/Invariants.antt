use Rattle.std.proofs.Common.{◌-◌, ◌*◌, ◌≤◌, ◌^◌}
use Rattle.lst_model.specs.Cells.{number_at}
use Rattle.lst_scan.specs.Savings.{SavesPart}
use Rattle.lst_scan.proofs.Loops.{Adds}
use Rattle.lst_scan.proofs.sums.sum_part.Given as goal

abbrev pub invariant-loop-range : goal.invariant-loop-range
invariant-loop-range l = Adds l.store l.fn.seat.view l.seat l.s (number_at l.c) (256 * l.from) (256 * l.range) l.total × (l.range ≤ l.to) × (l.total ≤ (l.range - l.from) * 2 ^ 73) × SavesPart l.fn.seat.view l.seat.view l.s l.c (256 * l.from) (256 * l.range)
