use Rattle.std.proofs.Common.{◌≡◌, ℕ, ◌+◌, ◌*◌, ◌<◌, slice_index}
use Rattle.lst_pack.specs.Forms.{number_at}
use Rattle.lst_pack.proofs.widths.read_wide.Given as goal

abbrev pub invariant-loop-turn : goal.invariant-loop-turn
invariant-loop-turn l = (p : ℕ) → p < l.turn * 2 → slice_index l.numbers p ≡ number_at l.words l.from 32 p

abbrev pub invariant-loop-k : goal.invariant-loop-k
invariant-loop-k l = (p : ℕ) → p < l.turn * 2 + l.k → slice_index l.numbers p ≡ number_at l.words l.from 32 p
