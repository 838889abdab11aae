use Rattle.std.proofs.Common.{◌≡◌, length, take}
use Rattle.lst_script.specs.Pairs.{filled}
use Rattle.lst_script.proofs.pairs.row_from.Given as goal

abbrev pub invariant-loop-change : goal.invariant-loop-change
invariant-loop-change l = (l.row ≡ filled (take l.change-index l.changes)) × (length l.row ≡ l.change-index)
