use Rattle.std.proofs.Common.{◌≡◌, ℕ, ◌<◌, slice_index, length}
use Rattle.lst_pack.proofs.packing.spots_of.Given as goal

abbrev pub invariant-loop-code : goal.invariant-loop-code
invariant-loop-code l = record {
  long : length l.spots ≡ 128;
  low : (spot : ℕ) → spot < 128 → slice_index l.spots spot < l.size;
}
