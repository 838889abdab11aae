-- What an act asks of the row of its key.
use Rattle.std.specs.Prelude.{List, Option, is_some, is_none}
use Rattle.lst_model.specs.declared.acts.Act.{Act}
use Rattle.lst_model.specs.declared.acts.Act.TheVariants.{Put, Set, Del}
use Rattle.lst_model.specs.declared.replies.Cause.{Cause}
use Rattle.lst_model.specs.declared.replies.Cause.TheVariants.{Exists, Missing}
use Rattle.lst_model.specs.Cells.{Cell}
use Rattle.lst_machine.specs.Calls.{where_true}

-- an act that an update or a delete makes
abbrev pub IsChange : Act → Type 0
IsChange (Put cells) = ⊥
IsChange (Set patch) = Unit {0}
IsChange Del = Unit {0}

-- why an act does not fit a row, or no row
abbrev pub misfit : Option (List Cell) → Act → Option Cause
misfit row (Put cells) = where_true (is_some row) Exists
misfit row (Set patch) = where_true (is_none row) Missing
misfit row Del = where_true (is_none row) Missing
