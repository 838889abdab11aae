use Rattle.std.proofs.Common.{◌≡◌, ℕ, ◌+◌, ◌-◌, ◌*◌, ◌/◌, ◌%◌, ◌^◌, ◌<◌, slice_index, length}
use Rattle.lst_pack.proofs.packing.write_differences.Given as goal

abbrev pub invariant-loop-turn : goal.invariant-loop-turn
invariant-loop-turn g l = record {
  long : length l.out ≡ 257;
  first : slice_index l.out 0 ≡ 4 + 8 * g.row.WIDTH;
  base : slice_index l.out 1 ≡ l.least;
  differences : (t k : ℕ) → t < l.turn → k < 64 / g.row.WIDTH → slice_index l.out (2 + t) / 2 ^ (k * g.row.WIDTH) % 2 ^ g.row.WIDTH ≡ slice_index l.values (t * (64 / g.row.WIDTH) + k) - l.least;
}
