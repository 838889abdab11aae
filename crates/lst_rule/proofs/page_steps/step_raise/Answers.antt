use Rattle.std.proofs.Common.{ap}
use Rattle.lst_layout.specs.declared.limits.Limits.{Limits}
use Rattle.lst_rule.proofs.page_steps.step_raise.Goals as goal

pub store_page-requires-clause-actor : goal.store_page-requires-clause-actor
store_page-requires-clause-actor c = ap (λ (l : Limits). l.sessions) c.requires.seat.limits

pub returns-clause-view : goal.returns-clause-view
returns-clause-view c = c.store_page.ensures.made.view
