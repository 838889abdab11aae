use Rattle.std.proofs.Common.{◌≡◌, ◌≤◌, length, take}
use Rattle.lst_historic.proofs.changing.put.Given as goal

abbrev pub invariant-loop-column : goal.invariant-loop-column
invariant-loop-column l = record {
  cells : l.cells.items ≡ take l.column l.row;
  size : length l.cells.items ≡ l.column;
  few : length l.row ≤ 8;
}
