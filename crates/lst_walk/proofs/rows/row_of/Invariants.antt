use Rattle.std.proofs.Common.{◌≡◌, map, take}
use Rattle.std.specs.Prelude.{None, unwrap_or}
use Rattle.lst_walk.proofs.rows.row_of.Given as goal

abbrev pub invariant-loop-column : goal.invariant-loop-column
invariant-loop-column l = l.row ≡ take l.column (map (λ cell. unwrap_or cell None) l.patch)
