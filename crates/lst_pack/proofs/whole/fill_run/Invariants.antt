use Rattle.std.proofs.Common.{◌-◌, ◌≡◌, ℕ, ◌<◌, ◌≤◌, slice_index}
use Rattle.lst_pack.proofs.whole.fill_run.Given as goal

-- the places from the start of the run to here have its value
abbrev pub invariant-loop-place : goal.invariant-loop-place
invariant-loop-place l = record {
  past : l.start ≤ l.place;
  before : (place : ℕ) → place < l.start → slice_index l.out place ≡ slice_index l.fn.out place;
  run : (place : ℕ) → l.start ≤ place → place < l.place → slice_index l.out place ≡ l.value;
}

abbrev pub decreases-loop-place : goal.decreases-loop-place
decreases-loop-place l = l.end - l.place

abbrev pub invariant-loop-place-else-end-le248 : goal.invariant-loop-place-else-end-le248
invariant-loop-place-else-end-le248 l = record {
  before : (place : ℕ) → place < l.start → slice_index l.out place ≡ slice_index l.fn.out place;
  run : (place : ℕ) → l.start ≤ place → place < l.place → slice_index l.out place ≡ l.value;
}
