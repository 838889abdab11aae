use Rattle.std.proofs.Common.{◌≡◌, ℕ, ◌+◌, ◌-◌, ◌*◌, ◌/◌, ◌%◌, ◌^◌, ◌<◌, ◌≤◌, slice_index}
use Rattle.lst_pack.proofs.packing.word_of_codes.Given as goal

-- the word has the codes of the places from k on
abbrev pub invariant-loop-k : goal.invariant-loop-k
invariant-loop-k l = record {
  few : l.k ≤ 16;
  low : l.word < 2 ^ ((16 - l.k) * 4);
  codes : (j : ℕ) → l.k + j < 16 → (l.word / 2 ^ (j * 4) % 2 ^ 4 < l.size) × (slice_index l.known (l.word / 2 ^ (j * 4) % 2 ^ 4) ≡ slice_index l.values (l.turn * 16 + (l.k + j)));
}
