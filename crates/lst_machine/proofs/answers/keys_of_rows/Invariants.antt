use Rattle.std.proofs.Common.{◌≡◌, ℕ, List, take, map}
use Rattle.std.specs.Prelude.{filter}
use Rattle.lst_model.specs.Cells.{Cell, holds_at}
use Rattle.lst_machine.proofs.answers.keys_of_rows.Given as goal

abbrev pub invariant-loop-key : goal.invariant-loop-key
invariant-loop-key l = l.keys ≡ map (λ (entry : ℕ × List Cell). entry.0) (filter (λ (entry : ℕ × List Cell). holds_at l.column l.value entry.1) (take l.key-index l.rows))
