use Rattle.std.proofs.Common.{◌≡◌, ◌++◌, ◌∷◌, flat_map, drop}
use Rattle.lst_script.specs.Canonical.{cell_word}
use Rattle.lst_script.proofs.printing.push_numbered_cells.Given as goal

abbrev pub invariant-loop-column : goal.invariant-loop-column
invariant-loop-column l = l.bytes.items ++ flat_map (λ cell. 32 ∷ cell_word cell) (drop l.column l.row) ≡ l.initial.bytes.items ++ flat_map (λ cell. 32 ∷ cell_word cell) l.row
