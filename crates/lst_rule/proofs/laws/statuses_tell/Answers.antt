use Rattle.lst_rule.proofs.StatusTelling.{states_tell, statuses_tell}
use Rattle.lst_rule.proofs.laws.statuses_tell.Goals as goal

pub returns-clause-states : goal.returns-clause-states
returns-clause-states c = states_tell

pub returns-clause-found : goal.returns-clause-found
returns-clause-found c = statuses_tell
