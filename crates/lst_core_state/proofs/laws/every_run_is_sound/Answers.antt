use Rattle.lst_core_state.proofs.Keeps.{every_run_is_sound}
use Rattle.lst_core_state.proofs.laws.every_run_is_sound.Goals as goal

pub returns : goal.returns
returns c = every_run_is_sound
