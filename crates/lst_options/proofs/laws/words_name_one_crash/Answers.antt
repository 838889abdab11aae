use Rattle.lst_options.proofs.OneStore.{names_one_crash}
use Rattle.lst_options.proofs.laws.words_name_one_crash.Goals as goal

pub returns : goal.returns
returns c = names_one_crash
