use Rattle.lst_core_state.proofs.Statements.{seen_may_grow, merger_may_grow}
use Rattle.lst_core_state.proofs.laws.seen_may_grow.Goals as goal

pub returns-clause-sessions : goal.returns-clause-sessions
returns-clause-sessions c = seen_may_grow

pub returns-clause-merger : goal.returns-clause-merger
returns-clause-merger c = merger_may_grow
