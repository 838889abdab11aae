use Rattle.std.proofs.Common.{◌≡◌, ℕ, ◌+◌, ◌*◌, ◌<◌, slice_index}
use Rattle.lst_pack.specs.Forms.{number_at}
use Rattle.lst_pack.proofs.widths.read_halves.Given as goal

abbrev pub invariant-loop-turn : goal.invariant-loop-turn
invariant-loop-turn l = (p : ℕ) → p < l.turn * 4 → slice_index l.numbers p ≡ number_at l.words l.from 16 p

abbrev pub invariant-loop-k : goal.invariant-loop-k
invariant-loop-k l = (p : ℕ) → p < l.turn * 4 + l.k → slice_index l.numbers p ≡ number_at l.words l.from 16 p
