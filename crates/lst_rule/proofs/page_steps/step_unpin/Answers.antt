use Rattle.lst_rule.proofs.page_steps.step_unpin.Goals as goal

pub returns-clause-view : goal.returns-clause-view
returns-clause-view c = c.store_page.ensures.made.view
