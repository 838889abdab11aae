use Rattle.std.proofs.Common.{◌≡◌, ℕ, ◌*◌, ◌/◌, ◌%◌, ◌<◌, ◌≤◌, slice_index, true}
use Rattle.std.specs.Prelude.{◌↔◌}
use Rattle.lst_bits.specs.Times.{time_of}
use Rattle.lst_scan.specs.Paged.{IsLastWord}
use Rattle.lst_scan.proofs.paged.surveyed.Given as goal

abbrev pub invariant-loop-block : goal.invariant-loop-block
invariant-loop-block l = ((tps begin : ℕ) → IsLastWord tps l.last_head → IsLastWord begin l.last_stamp → (i : ℕ) → i < 32 * l.block → (slice_index l.heads i / 2 ≤ tps) × (time_of (slice_index l.times i) ≤ begin))
    × ((l.all_present ≡ true) ↔ ((i : ℕ) → i < 32 * l.block → slice_index l.times i % 2 ≡ 1))
