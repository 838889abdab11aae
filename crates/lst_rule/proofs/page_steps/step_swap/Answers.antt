use Rattle.std.proofs.Common.{ap}
use Rattle.lst_layout.specs.declared.limits.Limits.{Limits}
use Rattle.lst_rule.proofs.Paging.{swap_made}
use Rattle.lst_rule.proofs.page_steps.step_swap.Goals as goal

pub store_page-requires-clause-actor : goal.store_page-requires-clause-actor
store_page-requires-clause-actor c = ap (λ (l : Limits). l.sessions) c.requires.seat.limits

pub returns-clause-swapped : goal.returns-clause-swapped
returns-clause-swapped c = swap_made _ _ _ _ c.requires.host c.store_page.ensures.made
