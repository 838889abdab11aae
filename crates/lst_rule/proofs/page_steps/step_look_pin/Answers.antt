use Rattle.lst_rule.proofs.Paging.{pin_looked}
use Rattle.lst_rule.proofs.page_steps.step_look_pin.Goals as goal

pub returns-clause-looked : goal.returns-clause-looked
returns-clause-looked c = pin_looked _ _ _ _ c.load_page.ensures.met
