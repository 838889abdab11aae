use Rattle.lst_rule.proofs.Turns.{sights_fit}
use Rattle.lst_rule.proofs.Seeing.{seen_is_by_name, sights_stay}
use Rattle.lst_rule.proofs.laws.versions_are_seen.Goals as goal

pub returns-clause-named : goal.returns-clause-named
returns-clause-named c = seen_is_by_name

pub returns-clause-stay : goal.returns-clause-stay
returns-clause-stay c = sights_stay

pub returns-clause-fit : goal.returns-clause-fit
returns-clause-fit c = sights_fit
