use Rattle.std.proofs.Common.{rules}
use Rattle.lst_report.proofs.claims.is_mark.Goals as goal

pub returns : goal.returns
returns c = search rules
