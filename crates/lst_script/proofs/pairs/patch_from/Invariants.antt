use Rattle.std.proofs.Common.{◌≡◌, length, take}
use Rattle.lst_script.proofs.pairs.patch_from.Given as goal

abbrev pub invariant-loop-change : goal.invariant-loop-change
invariant-loop-change l = (l.patch ≡ take l.change-index l.changes) × (length l.patch ≡ l.change-index)
