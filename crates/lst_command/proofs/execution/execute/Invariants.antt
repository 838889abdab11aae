use Rattle.std.proofs.Common.{◌≡◌, drop}
use Rattle.lst_machine.specs.State.{opening}
use Rattle.lst_machine.specs.Machine.{state_after}
use Rattle.lst_session.specs.Crews.{IsCrewOf, TellsState}
use Rattle.lst_command.specs.Owed.{run_text}
use Rattle.lst_command.specs.Runs.{HasRun}
use Rattle.lst_command.proofs.execution.execute.Given as goal

abbrev pub invariant-loop-place : goal.invariant-loop-place
invariant-loop-place l = record {
  crew : IsCrewOf l.store l.crew;
  tells : TellsState l.crew.seat.view;
  limits : l.crew.seat.view.limits ≡ l.limits;
  run : HasRun l.limits l.crew.seat.view l.text (drop l.place l.script) (run_text l.limits l.script) (state_after l.limits opening l.script);
}
