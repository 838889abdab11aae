use Rattle.std.proofs.Common.{◌≡◌, ℕ, ◌-◌, ◌*◌, ◌<◌, ◌≤◌, slice_index}
use Rattle.lst_pack.specs.Forms.{run_value, IsInRun}
use Rattle.lst_pack.proofs.whole.unpack_runs.Given as goal

-- `at` is twice the number of runs before this one; the places below where it starts have their values
abbrev pub invariant-loop-at : goal.invariant-loop-at
invariant-loop-at l = record {
  even : (run : ℕ) × (l.at ≡ 2 * run) × (run ≤ l.runs);
  here : (0 < l.at → l.start ≡ slice_index l.words l.at) × (l.at ≡ 0 → l.start ≡ 0) × (l.start ≤ 256);
  done : (place run : ℕ) → place < l.start → IsInRun l.words l.runs place run → slice_index l.out place ≡ run_value l.words run;
}

abbrev pub decreases-loop-at : goal.decreases-loop-at
decreases-loop-at l = 2 * l.runs - l.at
