use Rattle.lst_probe.proofs.Counting as proved
use Rattle.lst_probe.proofs.laws.distinct_within.Goals as goal

pub returns : goal.returns
returns g c = proved.distinct_within
