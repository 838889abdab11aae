use Rattle.std.proofs.Common.{◌<◌, ℕ, ◌+◌, ◌^◌, slice_index}
use Rattle.lst_pack.specs.Forms.{difference_at}
use Rattle.lst_pack.proofs.checks.is_reference.Given as goal

abbrev pub invariant-loop-place : goal.invariant-loop-place
invariant-loop-place l = (p : ℕ) → p < l.place → slice_index l.words 1 + difference_at l.words l.width p < 2 ^ 64
