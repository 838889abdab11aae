use Rattle.std.proofs.Common.{ℕ, ◌<◌, ◌^◌, get_or, None}
use Rattle.std.specs.Prelude.{IfSome}
use Rattle.lst_log.proofs.read.is_patch_width.Given as goal

abbrev pub invariant-loop-change : goal.invariant-loop-change
invariant-loop-change l = (i : ℕ) → i < l.change-index → IfSome (get_or l.changes i None) (λ number. number < 2 ^ 64)
