use Rattle.lst_rule.proofs.Copying.{chains_are_walked, copies_stay}
use Rattle.lst_rule.proofs.Finding.{loads_find_chains, latches_find_chains, ranges_are_found}
use Rattle.lst_rule.proofs.laws.chains_are_copied.Goals as goal

pub returns-clause-loads : goal.returns-clause-loads
returns-clause-loads c = loads_find_chains

pub returns-clause-latches : goal.returns-clause-latches
returns-clause-latches c = latches_find_chains

pub returns-clause-walked : goal.returns-clause-walked
returns-clause-walked c = chains_are_walked

pub returns-clause-stay : goal.returns-clause-stay
returns-clause-stay c = copies_stay

pub returns-clause-ranges : goal.returns-clause-ranges
returns-clause-ranges c = ranges_are_found
