-- The history that the machine tells after a script.
use Rattle.std.specs.Prelude.{List}
use Rattle.lst_layout.specs.declared.limits.Limits.{Limits}
use Rattle.lst_model.specs.declared.lines.Line.{Line}
use Rattle.lst_model.specs.Soundness.{IsSound}
use Rattle.lst_machine.specs.State.{opening}
use Rattle.lst_machine.specs.Machine.{state_after}

-- after any script, under any limits, the machine's history is sound
abbrev pub MachineIsSound : Type 0
MachineIsSound = (limits : Limits) (script : List Line) → IsSound (state_after limits opening script).store.history
