use Rattle.lst_chain.proofs.Columns.{passed_change_nothing, newest_decides}
use Rattle.lst_chain.proofs.laws.column_laws.Goals as goal

pub returns-clause-passed : goal.returns-clause-passed
returns-clause-passed g c = passed_change_nothing g.V.Version.status g.V.Version.explicit

pub returns-clause-newest : goal.returns-clause-newest
returns-clause-newest g c = newest_decides g.V.Version.status g.V.Version.explicit
