use Rattle.std.proofs.Common.{◌≡◌, ◌+◌, ◌++◌, [], ◌∷◌, ℕ, Option, drop}
use Rattle.std.specs.Prelude.{unwrap_or}
use Rattle.std.specs.List.{flat_map}
use Rattle.lst_line_list.proofs.keeping.push_settings.Given as goal

abbrev pub invariant-loop-change : goal.invariant-loop-change
invariant-loop-change l =
    (l.numbers.items ++ flat_map (λ (change : Option ℕ). unwrap_or change 0 ∷ []) (drop l.change-index l.changes)
    ≡ l.fn.numbers.items ++ flat_map (λ (change : Option ℕ). unwrap_or change 0 ∷ []) l.changes)
    × ((l.numbers.len ≡ l.fn.numbers.len + l.change-index) × (l.numbers.cap ≡ l.fn.numbers.cap))
