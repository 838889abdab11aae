use Rattle.lst_pages.proofs.Safety.{sound_safe}
use Rattle.lst_pages.proofs.laws.sound_states_are_safe.Goals as goal

pub returns : goal.returns
returns c = sound_safe
