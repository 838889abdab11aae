use Rattle.std.proofs.Common.{◌≡◌, ℕ, ◌+◌, ◌<◌, ◌≤◌, slice_index}
use Rattle.lst_pack.proofs.whole.fill.Given as goal

abbrev pub invariant-loop-k : goal.invariant-loop-k
invariant-loop-k g l = record {
  before : (place : ℕ) → place < l.from → slice_index l.out place ≡ slice_index l.fn.out place;
  here : (place : ℕ) → l.from ≤ place → place < l.from + l.k → slice_index l.out place ≡ l.value;
}
