use Rattle.lst_pages.proofs.Safety.{every_run_sound}
use Rattle.lst_pages.proofs.laws.every_run_is_sound.Goals as goal

pub returns : goal.returns
returns c = every_run_sound
