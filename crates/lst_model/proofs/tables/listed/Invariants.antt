use Rattle.std.proofs.Common.{◌≡◌, ◌++◌}
use Rattle.lst_model.proofs.tables.listed.Given as goal

abbrev pub invariant-loop-key : goal.invariant-loop-key
invariant-loop-key l = l.list ++ l.key-iterator ≡ l.rows.entries
