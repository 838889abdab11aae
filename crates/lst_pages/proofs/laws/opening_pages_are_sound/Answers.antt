use Rattle.lst_pages.proofs.Beginning.{opening_is_sound}
use Rattle.lst_pages.proofs.laws.opening_pages_are_sound.Goals as goal

pub returns : goal.returns
returns c = opening_is_sound
