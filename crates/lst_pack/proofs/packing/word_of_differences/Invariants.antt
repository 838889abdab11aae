use Rattle.std.proofs.Common.{◌≡◌, ℕ, ◌+◌, ◌-◌, ◌*◌, ◌/◌, ◌%◌, ◌^◌, ◌<◌, ◌≤◌, slice_index}
use Rattle.lst_pack.proofs.packing.word_of_differences.Given as goal

-- the word has the differences at the places from k on
abbrev pub invariant-loop-k : goal.invariant-loop-k
invariant-loop-k g l = record {
  few : l.k ≤ l.count;
  low : l.word < 2 ^ ((l.count - l.k) * g.row.WIDTH);
  differences : (j : ℕ) → l.k + j < l.count → l.word / 2 ^ (j * g.row.WIDTH) % 2 ^ g.row.WIDTH ≡ slice_index l.values (l.turn * l.count + (l.k + j)) - l.least;
}
