use Rattle.std.proofs.Common.{◌≡◌, ◌++◌, drop}
use Rattle.lst_script.specs.Canonical.{behind_spaces}
use Rattle.lst_script.proofs.printing.push_names.Given as goal

abbrev pub invariant-loop-name : goal.invariant-loop-name
invariant-loop-name l = l.bytes.items ++ behind_spaces (drop l.name-index l.names) ≡ l.initial.bytes.items ++ behind_spaces l.names
