use Rattle.lst_chain.proofs.Columns.{cells_are_read}
use Rattle.lst_chain.proofs.laws.nullable_columns.Goals as goal

pub returns : goal.returns
returns g c = cells_are_read g.V.Version.status g.V.Version.explicit
