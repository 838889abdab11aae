use Rattle.std.proofs.Common.{◌≡◌, length}
use Rattle.lst_script.specs.Pairs.{nothing_set}
use Rattle.lst_script.proofs.pairs.unset.Given as goal

abbrev pub invariant-loop-column : goal.invariant-loop-column
invariant-loop-column l = (l.changes.items ≡ nothing_set l._column) × (length l.changes.items ≡ l._column)
