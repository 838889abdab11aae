use Rattle.lst_refinement.proofs.Counts.{counts_are_told}
use Rattle.lst_refinement.proofs.Keys.{keys_are_placed, others_are_unplaced}
use Rattle.lst_refinement.proofs.Owns.{own_writes_are_told, sights_are_told}
use Rattle.lst_refinement.proofs.Follows.{open_may_follow}
use Rattle.lst_refinement.proofs.Rivals.{conflicts_are_told}
use Rattle.lst_refinement.proofs.laws.states_are_told.Goals as goal

pub returns-clause-counts : goal.returns-clause-counts
returns-clause-counts c = counts_are_told

pub returns-clause-placed : goal.returns-clause-placed
returns-clause-placed c = keys_are_placed

pub returns-clause-unplaced : goal.returns-clause-unplaced
returns-clause-unplaced c = others_are_unplaced

pub returns-clause-own : goal.returns-clause-own
returns-clause-own c = own_writes_are_told

pub returns-clause-follows : goal.returns-clause-follows
returns-clause-follows c = open_may_follow

pub returns-clause-sights : goal.returns-clause-sights
returns-clause-sights c = sights_are_told

pub returns-clause-conflicts : goal.returns-clause-conflicts
returns-clause-conflicts c = conflicts_are_told
