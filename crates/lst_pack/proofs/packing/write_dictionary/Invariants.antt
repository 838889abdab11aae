use Rattle.std.proofs.Common.{◌≡◌, ℕ, ◌+◌, ◌*◌, ◌/◌, ◌%◌, ◌^◌, ◌<◌, slice_index, length}
use Rattle.lst_pack.proofs.packing.write_dictionary.Given as goal

abbrev pub invariant-loop-code : goal.invariant-loop-code
invariant-loop-code l = record {
  long : length l.out ≡ 257;
  first : slice_index l.out 0 ≡ 2 + 8 * l.size;
  known : (code : ℕ) → code < l.code → slice_index l.out (1 + code) ≡ slice_index l.known code;
}

abbrev pub invariant-loop-turn : goal.invariant-loop-turn
invariant-loop-turn l = record {
  long : length l.out ≡ 257;
  first : slice_index l.out 0 ≡ 2 + 8 * l.size;
  known : (code : ℕ) → code < l.size → slice_index l.out (1 + code) ≡ slice_index l.known code;
  codes : (t k : ℕ) → t < l.turn → k < 16 → (slice_index l.out (1 + l.size + t) / 2 ^ (k * 4) % 2 ^ 4 < l.size)
      × (slice_index l.known (slice_index l.out (1 + l.size + t) / 2 ^ (k * 4) % 2 ^ 4) ≡ slice_index l.values (t * 16 + k));
}
