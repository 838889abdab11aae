use Rattle.std.proofs.Common.{rules}
use Rattle.lst_reply_queue.proofs.kinds.width.Goals as goal

pub returns-in-Row : goal.returns-in-Row
returns-in-Row c = search rules
