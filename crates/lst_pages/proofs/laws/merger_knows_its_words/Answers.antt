use Rattle.lst_pages.proofs.Safety.{sound_known}
use Rattle.lst_pages.proofs.laws.merger_knows_its_words.Goals as goal

pub returns : goal.returns
returns c = sound_known
