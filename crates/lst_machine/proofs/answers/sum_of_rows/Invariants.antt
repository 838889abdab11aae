use Rattle.std.proofs.Common.{◌≡◌, ℕ, ◌*◌, ◌≤◌, List, take}
use Rattle.std.specs.Prelude.{sum_by}
use Rattle.lst_model.specs.Cells.{Cell, number_at}
use Rattle.lst_machine.proofs.answers.sum_of_rows.Given as goal

abbrev pub invariant-loop-entry : goal.invariant-loop-entry
invariant-loop-entry l = record {
  total : l.total ≡ sum_by (λ (entry : ℕ × List Cell). number_at l.column entry.1) (take l.entry-index l.rows);
  low : l.total ≤ l.entry-index * 18446744073709551615;
}
