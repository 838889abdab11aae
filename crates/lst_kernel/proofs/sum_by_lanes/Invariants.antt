use Rattle.std.proofs.Common.{◌≡◌, ◌+◌, ◌-◌, ◌*◌, ◌%◌, ◌^◌, ◌≤◌, ℕ, length, map}
use lib.Lanes.{sum_l}
use Rattle.lst_kernel.proofs.Sums.{seen_up_to, high_half}
use Rattle.lst_kernel.proofs.sum_by_lanes.Given as goal

abbrev pub invariant-loop-at : goal.invariant-loop-at
invariant-loop-at l = record {
  within : l.at ≤ length l.values;
  steps : (n : ℕ) × (l.at ≡ n * 8);
  low : sum_l l.sums % 2 ^ 64 ≡ sum_l (seen_up_to l.begin l.values l.times l.at) % 2 ^ 64;
  high : sum_l l.high_halves ≡ sum_l (map high_half (seen_up_to l.begin l.values l.times l.at));
}

abbrev pub decreases-loop-at : goal.decreases-loop-at
decreases-loop-at l = length l.values + 1 - l.at
