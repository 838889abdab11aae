use Rattle.std.proofs.Common.{rules}
use Rattle.lst_pack.proofs.survey.choose.Goals as goal

pub returns-else-distinct-le16 : goal.returns-else-distinct-le16
returns-else-distinct-le16 c = search rules
