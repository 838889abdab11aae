use Rattle.lst_pages.proofs.Leaving.{pages_are_left}
use Rattle.lst_pages.proofs.laws.pages_left_alone_are_sound.Goals as goal

pub returns : goal.returns
returns c = pages_are_left
