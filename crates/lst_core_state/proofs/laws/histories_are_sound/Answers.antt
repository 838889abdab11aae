use Rattle.lst_core_state.proofs.Statements.{histories_are_sound}
use Rattle.lst_core_state.proofs.laws.histories_are_sound.Goals as goal

pub returns : goal.returns
returns c = histories_are_sound
