use Rattle.std.proofs.Common.{◌≡◌, length}
use Rattle.lst_core_state.specs.Cells.{listed}
use Rattle.lst_history.specs.Peeks.{words_in, Reads}
use Rattle.lst_history.proofs.acts.values.Given as goal

abbrev pub invariant-loop-column : goal.invariant-loop-column
invariant-loop-column l = Reads l.store l.fn.seat l.seat l.s × (l.cells.items ≡ listed ((words_in l.fn.seat.view).cells l.tail) 3 l.column) × (length l.cells.items ≡ l.column)
