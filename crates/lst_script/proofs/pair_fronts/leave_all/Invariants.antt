use Rattle.std.proofs.Common.{◌≡◌, length}
use Rattle.lst_script.specs.Pairs.{nothing_set}
use Rattle.lst_script.proofs.pair_fronts.leave_all.Given as goal

abbrev pub invariant-loop-column : goal.invariant-loop-column
invariant-loop-column l = (l.changes ≡ nothing_set l._column) × (length l.changes ≡ l._column)
