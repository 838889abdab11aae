use Rattle.lst_pages.proofs.Growing.{tails_grow}
use Rattle.lst_pages.proofs.Leaving.{steps_leave_pages, hearing_leaves_pages}
use Rattle.lst_pages.proofs.laws.steps_of_the_core_leave_pages.Goals as goal

pub returns-clause-tails : goal.returns-clause-tails
returns-clause-tails c = tails_grow

pub returns-clause-steps : goal.returns-clause-steps
returns-clause-steps c = steps_leave_pages

pub returns-clause-hearing : goal.returns-clause-hearing
returns-clause-hearing c = hearing_leaves_pages
