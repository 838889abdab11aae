use Rattle.std.proofs.Common.{rules}
use Rattle.lst_replies.proofs.parse.after_replies.Goals as goal

pub returns : goal.returns
returns c = search rules
