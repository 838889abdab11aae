use Rattle.lst_pages.proofs.Freeing.{words_are_free}
use Rattle.lst_pages.proofs.laws.words_of_pages_are_free.Goals as goal

pub returns : goal.returns
returns c = words_are_free
