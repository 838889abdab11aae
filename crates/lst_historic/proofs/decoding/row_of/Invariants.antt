use Rattle.std.proofs.Common.{◌≡◌, ◌≤◌, length, take}
use Rattle.lst_historic.proofs.decoding.row_of.Given as goal

abbrev pub invariant-loop-cell : goal.invariant-loop-cell
invariant-loop-cell l = record {
  row : l.row ≡ take l.cell-index l.cells.items;
  few : length l.cells.items ≤ 8;
}
