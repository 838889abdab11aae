use Rattle.std.proofs.Common.{rules}
use Rattle.lst_csv.proofs.inserting.push_pair.Goals as goal

pub returns-then-is_empty-clause-text : goal.returns-then-is_empty-clause-text
returns-then-is_empty-clause-text c = search rules
