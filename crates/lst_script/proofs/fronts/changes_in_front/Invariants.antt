use Rattle.std.proofs.Common.{◌≤◌}
use Rattle.lst_script.proofs.Beginnings.{HasChanges}
use Rattle.lst_script.proofs.fronts.changes_in_front.Given as goal

abbrev pub invariant-loop-column : goal.invariant-loop-column
invariant-loop-column l = HasChanges l._column l.text l.rest l.patch × (l._column ≤ l.count)
