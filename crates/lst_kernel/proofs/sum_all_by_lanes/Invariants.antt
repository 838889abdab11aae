use Rattle.std.proofs.Common.{◌≡◌, ◌+◌, ◌-◌, ◌*◌, ◌%◌, ◌^◌, ◌≤◌, ℕ, length, map, take}
use lib.Lanes.{sum_l}
use Rattle.lst_kernel.proofs.Sums.{high_half}
use Rattle.lst_kernel.proofs.sum_all_by_lanes.Given as goal

abbrev pub invariant-loop-at : goal.invariant-loop-at
invariant-loop-at l = record {
  within : l.at ≤ length l.values;
  steps : (n : ℕ) × (l.at ≡ n * 8);
  low : sum_l l.sums % 2 ^ 64 ≡ sum_l (take l.at l.values) % 2 ^ 64;
  high : sum_l l.high_halves ≡ sum_l (map high_half (take l.at l.values));
}

abbrev pub decreases-loop-at : goal.decreases-loop-at
decreases-loop-at l = length l.values + 1 - l.at
