use Rattle.lst_rule.proofs.Clocks.{clocked}
use Rattle.lst_rule.proofs.loads.load_clock.Goals as goal

pub returns-clause-clocked : goal.returns-clause-clocked
returns-clause-clocked c = clocked _ _ _ _ c.requires.host c.load_noted.ensures.looked
