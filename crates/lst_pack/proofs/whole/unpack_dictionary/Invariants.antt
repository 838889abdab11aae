use Rattle.std.proofs.Common.{◌≡◌, ℕ, ◌+◌, ◌*◌, ◌<◌, slice_index}
use Rattle.lst_pack.specs.Forms.{code_at}
use Rattle.lst_pack.proofs.whole.unpack_dictionary.Given as goal

abbrev pub invariant-loop-turn : goal.invariant-loop-turn
invariant-loop-turn l = (p : ℕ) → p < l.turn * 16 → slice_index l.out p ≡ slice_index l.words (1 + code_at l.words l.size p)

abbrev pub invariant-loop-k : goal.invariant-loop-k
invariant-loop-k l = (p : ℕ) → p < l.turn * 16 + l.k → slice_index l.out p ≡ slice_index l.words (1 + code_at l.words l.size p)
