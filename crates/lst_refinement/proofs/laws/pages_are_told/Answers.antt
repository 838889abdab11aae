use Rattle.lst_refinement.proofs.PageParts.{opening_pages_are_told, pins_and_pages_are_told, pinned_begins_are_told, pinned_ends_are_told, other_calls_leave_pages}
use Rattle.lst_refinement.proofs.laws.pages_are_told.Goals as goal

pub returns-clause-opening : goal.returns-clause-opening
returns-clause-opening c = opening_pages_are_told

pub returns-clause-same : goal.returns-clause-same
returns-clause-same c = pins_and_pages_are_told

pub returns-clause-begins : goal.returns-clause-begins
returns-clause-begins c = pinned_begins_are_told

pub returns-clause-ends : goal.returns-clause-ends
returns-clause-ends c = pinned_ends_are_told

pub returns-clause-others : goal.returns-clause-others
returns-clause-others c = other_calls_leave_pages
