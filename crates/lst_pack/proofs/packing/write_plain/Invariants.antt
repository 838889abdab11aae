use Rattle.std.proofs.Common.{◌≡◌, ℕ, ◌+◌, ◌<◌, slice_index, length}
use Rattle.lst_pack.proofs.packing.write_plain.Given as goal

abbrev pub invariant-loop-place : goal.invariant-loop-place
invariant-loop-place l = record {
  long : length l.out ≡ 257;
  first : slice_index l.out 0 ≡ 0;
  done : (k : ℕ) → k < l.place → slice_index l.out (1 + k) ≡ slice_index l.values k;
}
