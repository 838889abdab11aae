use Rattle.lst_refinement.proofs.Openings.{opening_is_told, transactions_are_told}
use Rattle.lst_refinement.proofs.Stamped.{stamps_tell_nothing}
use Rattle.lst_refinement.proofs.Began.{begins_are_told}
use Rattle.lst_refinement.proofs.Ended.{closes_are_told, commits_are_told}
use Rattle.lst_refinement.proofs.PlacedKeys.{places_are_told}
use Rattle.lst_refinement.proofs.Written.{writes_are_told}
use Rattle.lst_refinement.proofs.Others.{other_areas_tell_nothing}
use Rattle.lst_refinement.proofs.laws.changes_are_told.Goals as goal

pub returns-clause-opening : goal.returns-clause-opening
returns-clause-opening c = opening_is_told

pub returns-clause-stamps : goal.returns-clause-stamps
returns-clause-stamps c = stamps_tell_nothing

pub returns-clause-transactions : goal.returns-clause-transactions
returns-clause-transactions c = transactions_are_told

pub returns-clause-begins : goal.returns-clause-begins
returns-clause-begins c = begins_are_told

pub returns-clause-closes : goal.returns-clause-closes
returns-clause-closes c = closes_are_told

pub returns-clause-commits : goal.returns-clause-commits
returns-clause-commits c = commits_are_told

pub returns-clause-places : goal.returns-clause-places
returns-clause-places c = places_are_told

pub returns-clause-writes : goal.returns-clause-writes
returns-clause-writes c = writes_are_told

pub returns-clause-others : goal.returns-clause-others
returns-clause-others c = other_areas_tell_nothing
