use Rattle.lst_probe.proofs.Answering as proved
use Rattle.lst_probe.proofs.laws.one_answer.Goals as goal

pub returns : goal.returns
returns c = proved.one_answer
