use Rattle.std.proofs.Common.{◌≡◌, ◌≤◌, length, take}
use Rattle.lst_historic.proofs.changing.refill.Given as goal

abbrev pub invariant-loop-cell : goal.invariant-loop-cell
invariant-loop-cell l = record {
  cells : l.cells.items ≡ take l.cell-index l.other.items;
  few : length l.other.items ≤ 8;
}
