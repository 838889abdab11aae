use Rattle.lst_core_state.proofs.PostingsLaws.{ends_are_marked, unposted_may_be_posted}
use Rattle.lst_core_state.proofs.laws.unposted_may_be_posted.Goals as goal

pub returns-clause-marked : goal.returns-clause-marked
returns-clause-marked c = ends_are_marked

pub returns-clause-enabled : goal.returns-clause-enabled
returns-clause-enabled c = unposted_may_be_posted
