use Rattle.std.proofs.Common.{◌≡◌, ℕ, ◌+◌, ◌*◌, ◌<◌, length, slice_index}
use Rattle.lst_pack.specs.Forms.{number_at}
use Rattle.lst_pack.proofs.widths.read_bytes.Given as goal

abbrev pub invariant-loop-turn : goal.invariant-loop-turn
invariant-loop-turn g l = record {
  long : length l.bytes ≡ g.row.COUNT;
  done : (p : ℕ) → p < l.turn * 8 → slice_index l.bytes p ≡ number_at l.words l.from 8 p;
}

abbrev pub invariant-loop-k : goal.invariant-loop-k
invariant-loop-k g l = record {
  long : length l.bytes ≡ g.row.COUNT;
  done : (p : ℕ) → p < l.turn * 8 + l.k → slice_index l.bytes p ≡ number_at l.words l.from 8 p;
}
