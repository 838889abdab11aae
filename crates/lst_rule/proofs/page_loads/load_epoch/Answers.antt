use Rattle.lst_rule.proofs.Paging.{epoch_found}
use Rattle.lst_rule.proofs.page_loads.load_epoch.Goals as goal

pub returns-clause-least : goal.returns-clause-least
returns-clause-least c = epoch_found _ _ _ _ c.load_quietly.ensures.looked
