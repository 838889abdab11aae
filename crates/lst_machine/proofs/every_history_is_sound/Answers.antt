use Rattle.lst_machine.proofs.Lasting.{machine_is_sound}
use Rattle.lst_machine.proofs.every_history_is_sound.Goals as goal

pub returns : goal.returns
returns c = machine_is_sound
