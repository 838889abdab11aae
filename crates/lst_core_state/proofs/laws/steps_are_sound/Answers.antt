use Rattle.lst_core_state.proofs.Statements.{steps_are_sound}
use Rattle.lst_core_state.proofs.laws.steps_are_sound.Goals as goal

pub returns : goal.returns
returns c = steps_are_sound
