use Rattle.std.proofs.Common.{◌≡◌, ◌++◌, ◌∷◌, flat_map, drop}
use Rattle.lst_script.specs.Canonical.{change_word}
use Rattle.lst_script.proofs.printing.push_numbered_changes.Given as goal

abbrev pub invariant-loop-column : goal.invariant-loop-column
invariant-loop-column l = l.bytes.items ++ flat_map (λ change. 32 ∷ change_word change) (drop l.column l.patch) ≡ l.initial.bytes.items ++ flat_map (λ change. 32 ∷ change_word change) l.patch
