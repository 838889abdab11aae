use Rattle.std.proofs.Common.{◌≡◌, ◌++◌, drop}
use Rattle.lst_historic.specs.Places.{IsHeld}
use Rattle.lst_historic.specs.Tabled.{rows_at}
use Rattle.lst_historic.proofs.tables.table_at.Given as goal

abbrev pub invariant-loop-index : goal.invariant-loop-index
invariant-loop-index l = (held : IsHeld l.bytes l.columns l.until l.places) → l.rows ++ rows_at (drop l.index held.chains) l.time ≡ rows_at held.chains l.time
