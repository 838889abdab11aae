use Rattle.std.proofs.Common.{◌≡◌, ℕ, ◌+◌, ◌/◌, ◌%◌, ◌^◌, ◌<◌, ◌≤◌, slice_index}
use Rattle.std.specs.Prelude.{◌↔◌}
use Rattle.lst_bits.specs.Times.{time_of}
use Rattle.lst_scan.specs.Paged.{IsLastWord}
use Rattle.lst_scan.proofs.paged.block_surveyed.Given as goal

abbrev pub invariant-loop-turn : goal.invariant-loop-turn
invariant-loop-turn l = ((tps begin : ℕ) → IsLastWord tps l.last_head → IsLastWord begin l.last_stamp → (l.late < 2 ^ 63) ↔ ((i : ℕ) → l.start ≤ i → i < l.start + l.turn → (slice_index l.heads i / 2 ≤ tps) × (time_of (slice_index l.times i) ≤ begin)))
    × ((l.present % 2 ≡ 1) ↔ ((i : ℕ) → l.start ≤ i → i < l.start + l.turn → slice_index l.times i % 2 ≡ 1))
