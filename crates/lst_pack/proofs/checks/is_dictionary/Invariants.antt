use Rattle.std.proofs.Common.{◌<◌, ℕ}
use Rattle.lst_pack.specs.Forms.{code_at}
use Rattle.lst_pack.proofs.checks.is_dictionary.Given as goal

abbrev pub invariant-loop-place : goal.invariant-loop-place
invariant-loop-place l = (p : ℕ) → p < l.place → code_at l.words l.size p < l.size
