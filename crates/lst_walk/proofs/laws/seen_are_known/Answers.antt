use Rattle.lst_walk.proofs.Chained.{chains_are_known, chains_stay_known}
use Rattle.lst_walk.proofs.Sighted.{seen_are_known}
use Rattle.lst_walk.proofs.Ranged.{tails_tell_copies}
use Rattle.lst_walk.proofs.laws.seen_are_known.Goals as goal

pub returns-clause-found : goal.returns-clause-found
returns-clause-found c = chains_are_known

pub returns-clause-stays : goal.returns-clause-stays
returns-clause-stays c = chains_stay_known

pub returns-clause-seen : goal.returns-clause-seen
returns-clause-seen c = seen_are_known

pub returns-clause-tails : goal.returns-clause-tails
returns-clause-tails c = tails_tell_copies
