use Rattle.std.proofs.Common.{◌≡◌, ◌≤◌, length, map}
use Rattle.std.specs.Prelude.{Some}
use Rattle.lst_historic.proofs.Overlaid.{AreOverlaid}
use Rattle.lst_historic.proofs.changing.copy.Given as goal

abbrev pub invariant-loop-column : goal.invariant-loop-column
invariant-loop-column l = record {
  same : length l.fn.cells.items ≡ length l.other.items;
  size : length l.cells.items ≡ length l.other.items;
  so_far : AreOverlaid l.column l.fn.cells.items (map Some l.other.items) l.cells.items;
}
