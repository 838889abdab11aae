use Rattle.std.proofs.Common.{◌≡◌, ◌≤◌, length}
use Rattle.lst_script.specs.Pairs.{filled}
use Rattle.lst_script.proofs.Beginnings.{HasCells}
use Rattle.lst_script.proofs.fronts.cells_in_front.Given as goal

abbrev pub invariant-loop-column : goal.invariant-loop-column
invariant-loop-column l = (HasCells l._column l.text l.rest (filled l.row) × (length l.row ≡ l._column)) × (l._column ≤ l.count)
