use Rattle.lst_core_state.proofs.PostingsLaws.{chains_are_history, absent_is_unwritten}
use Rattle.lst_core_state.proofs.laws.chains_are_history.Goals as goal

pub returns-clause-placed : goal.returns-clause-placed
returns-clause-placed c = chains_are_history

pub returns-clause-absent : goal.returns-clause-absent
returns-clause-absent c = absent_is_unwritten
