use Rattle.std.proofs.Common.{◌≡◌, ◌++◌, ℕ, Option, drop}
use Rattle.std.specs.Prelude.{unwrap_or}
use Rattle.std.specs.List.{flat_map}
use Rattle.lst_log.specs.Format.{word}
use Rattle.lst_log.proofs.write.push_settings.Given as goal

abbrev pub invariant-loop-change : goal.invariant-loop-change
invariant-loop-change l =
    l.text.items ++ flat_map (λ (change : Option ℕ). word (unwrap_or change 0)) (drop l.change-index l.changes)
    ≡ l.fn.text.items ++ flat_map (λ (change : Option ℕ). word (unwrap_or change 0)) l.changes
