use Rattle.std.proofs.Common.{◌≡◌, ◌+◌, ◌-◌, ◌*◌, ◌≤◌, ℕ, length, take, count_by}
use lib.Lanes.{sum_l}
use Rattle.lst_kernel.specs.Entries.{is_seen}
use Rattle.lst_kernel.proofs.count_by_lanes.Given as goal

abbrev pub invariant-loop-at : goal.invariant-loop-at
invariant-loop-at l = record {
  within : l.at ≤ length l.times;
  steps : (n : ℕ) × (l.at ≡ n * 8);
  counted : sum_l l.counts ≡ count_by (is_seen l.begin) (take l.at l.times);
}

abbrev pub decreases-loop-at : goal.decreases-loop-at
decreases-loop-at l = length l.times + 1 - l.at
