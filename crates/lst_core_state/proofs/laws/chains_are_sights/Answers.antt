use Rattle.lst_core_state.proofs.Statements.{chains_are_sights, absent_is_unseen}
use Rattle.lst_core_state.proofs.laws.chains_are_sights.Goals as goal

pub returns-clause-placed : goal.returns-clause-placed
returns-clause-placed c = chains_are_sights

pub returns-clause-absent : goal.returns-clause-absent
returns-clause-absent c = absent_is_unseen
