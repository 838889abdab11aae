use Rattle.std.proofs.Common.{ℕ, ◌<◌, ◌≤◌, All, Contains}
use Rattle.lst_rule.specs.declared.records.RecordId.{RecordId}
use Rattle.lst_test_calls.proofs.scan_tests.all_records.Given as goal

abbrev pub invariant-loop-number : goal.invariant-loop-number
invariant-loop-number l = All (λ (r : RecordId). r.number < 512) l.records.items × ((rec : ℕ) → rec < l.number → Contains l.records.items record { number = rec }) × (l.number ≤ 512)
