use Rattle.std.proofs.Common.{◌≡◌, length}
use Rattle.lst_historic.proofs.Overlaid.{AreOverlaid}
use Rattle.lst_historic.proofs.changing.overlay.Given as goal

abbrev pub invariant-loop-column : goal.invariant-loop-column
invariant-loop-column l = record {
  size : length l.cells.items ≡ length l.fn.cells.items;
  so_far : AreOverlaid l.column l.fn.cells.items l.patch l.cells.items;
}
