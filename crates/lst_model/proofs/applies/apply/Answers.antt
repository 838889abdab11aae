use Rattle.std.proofs.Common.{rules}
use Rattle.lst_model.proofs.applies.apply.Goals as goal

pub returns-in-Del-clause-ok : goal.returns-in-Del-clause-ok
returns-in-Del-clause-ok c = search rules

pub returns-in-None-clause-ok : goal.returns-in-None-clause-ok
returns-in-None-clause-ok c = search rules

pub returns-in-Put-clause-ok : goal.returns-in-Put-clause-ok
returns-in-Put-clause-ok c = search rules
