use Rattle.std.proofs.Common.{◌≡◌, ◌++◌, drop}
use Rattle.lst_script.specs.Canonical.{behind_spaces, change_pairs}
use Rattle.lst_script.proofs.printing.push_named_changes.Given as goal

abbrev pub invariant-loop-column : goal.invariant-loop-column
invariant-loop-column l = l.bytes.items ++ behind_spaces (change_pairs (drop l.column l.names) (drop l.column l.patch)) ≡ l.initial.bytes.items ++ behind_spaces (change_pairs l.names l.patch)
