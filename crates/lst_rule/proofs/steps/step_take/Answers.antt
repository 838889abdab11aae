use Rattle.lst_rule.proofs.Clocks.{tried}
use Rattle.lst_rule.proofs.steps.step_take.Goals as goal

pub returns-clause-tried : goal.returns-clause-tried
returns-clause-tried c = tried _ _ _ _ c.exchange_event.ensures.met
