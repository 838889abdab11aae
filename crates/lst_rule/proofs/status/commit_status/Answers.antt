use Rattle.std.proofs.Common.{rules}
use Rattle.lst_rule.proofs.Stating.{asked_same, asked_clock}
use Rattle.lst_rule.proofs.status.commit_status.Goals as goal

pub returns-then-time-seen-clause-asked : goal.returns-then-time-seen-clause-asked
returns-then-time-seen-clause-asked c = asked_same _ _

pub returns-else-time-clock-clause-asked : goal.returns-else-time-clock-clause-asked
returns-else-time-clock-clause-asked c = asked_clock _ _ _ _ c.load_clock-clock.ensures.clocked

pub returns-then-time-clock-clause-says : goal.returns-then-time-clock-clause-says
returns-then-time-clock-clause-says c = search rules
