use Rattle.std.proofs.Common.{ℕ, ◌*◌, ◌<◌, ◌≤◌, All, Contains}
use Rattle.lst_core_state.specs.Cells.{record_count}
use Rattle.lst_rule.specs.declared.records.RecordId.{RecordId}
use Rattle.lst_scan.proofs.finds.all_records.Given as goal

abbrev pub invariant-loop-number : goal.invariant-loop-number
invariant-loop-number l = All (λ (r : RecordId). r.number < record_count l.store.layout.limits) l.records.items × ((rec : ℕ) → rec < l.number → Contains l.records.items record { number = rec }) × (l.number ≤ 256 * l.store.layout.limits.ranges)
