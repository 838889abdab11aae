use Rattle.lst_options.proofs.OneStore.{names_one}
use Rattle.lst_options.proofs.laws.words_name_one_store.Goals as goal

pub returns : goal.returns
returns c = names_one
