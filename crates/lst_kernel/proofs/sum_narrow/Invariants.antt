use Rattle.std.proofs.Common.{◌≡◌, ◌+◌, ◌-◌, ◌*◌, ◌%◌, ◌^◌, ◌<◌, ◌≤◌, ℕ, length, take, slice_index}
use lib.Lanes.{sum_l}
use Rattle.lst_kernel.proofs.Sums.{AreNarrow, greatest}
use Rattle.lst_kernel.proofs.sum_narrow.Given as goal

abbrev pub invariant-loop-at : goal.invariant-loop-at
invariant-loop-at l = record {
  within : l.at ≤ length l.values;
  steps : (n : ℕ) × (l.at ≡ n * 8);
  low : sum_l l.sums % 2 ^ 64 ≡ sum_l (take l.at l.values) % 2 ^ 64;
  narrow : AreNarrow l.bits → sum_l (take l.at l.values) ≤ greatest * l.at;
  every : ((k : ℕ) → k < 256 → slice_index l.values k < 2 ^ 56) → AreNarrow l.bits;
}

abbrev pub decreases-loop-at : goal.decreases-loop-at
decreases-loop-at l = length l.values + 1 - l.at
