use Rattle.lst_replies.proofs.Levels.{level_one, legal_is_no_stale}
use Rattle.lst_replies.proofs.laws.level_one_is_no_stale.Goals as goal

pub returns-clause-calls : goal.returns-clause-calls
returns-clause-calls c = level_one

pub returns-clause-reports : goal.returns-clause-reports
returns-clause-reports c = legal_is_no_stale
