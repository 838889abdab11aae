-- The lines of a script are lines that the store can take.
use Rattle.std.proofs.Common.{ℕ, List}
use Rattle.std.specs.Prelude.{All}
use Rattle.lst_layout.specs.declared.limits.Limits.{Limits}
use Rattle.lst_model.specs.declared.lines.Line.{Line}
use Rattle.lst_script.specs.Scripts.{IsScript}
use Rattle.lst_script.proofs.Fitting.{script_fits}
use Rattle.lst_command.specs.Runs.{IsTaken}

-- the lines of a script are taken
pub script_taken : (limits : Limits) (text : List ℕ) (script : List Line) → IsScript limits text script → All (IsTaken limits) script
script_taken limits text script is = script_fits limits text script is
