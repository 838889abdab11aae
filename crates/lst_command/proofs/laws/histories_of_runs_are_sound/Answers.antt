use Rattle.std.proofs.Common.{sym, subst}
use Rattle.lst_model.specs.Soundness.{IsSound}
use Rattle.lst_machine.specs.State.{State}
use Rattle.lst_machine.proofs.Lasting.{machine_is_sound}
use Rattle.lst_command.proofs.laws.histories_of_runs_are_sound.Goals as goal

pub returns : goal.returns
returns c limits script left by = subst (λ (state : State). IsSound state.store.history) (sym by.last) (machine_is_sound limits script)
