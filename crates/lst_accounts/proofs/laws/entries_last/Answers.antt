use Rattle.lst_accounts.proofs.Lasting.{entries_last, entries_join}
use Rattle.lst_accounts.proofs.laws.entries_last.Goals as goal

pub returns-clause-last : goal.returns-clause-last
returns-clause-last c = entries_last

pub returns-clause-join : goal.returns-clause-join
returns-clause-join c = entries_join
