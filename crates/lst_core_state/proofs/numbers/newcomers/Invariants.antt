use Rattle.std.proofs.Common.{◌-◌, ◌≡◌, ◌≤◌}
use Rattle.std.specs.Prelude.{replicate}
use Rattle.lst_core_state.specs.Numbers.{newcomer_numbers}
use Rattle.lst_core_state.proofs.numbers.newcomers.Given as goal

abbrev pub invariant-loop-made : goal.invariant-loop-made
invariant-loop-made l = (l.numbers.items ≡ replicate l.made newcomer_numbers) × (l.made ≤ l.count)

abbrev pub decreases-loop-made : goal.decreases-loop-made
decreases-loop-made l = l.count - l.made
