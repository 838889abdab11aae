use Rattle.lst_replies.proofs.Fronts.{take-texts}
use Rattle.lst_replies.proofs.parse.front_of.Goals as goal

pub returns-else-lines-count : goal.returns-else-lines-count
returns-else-lines-count c = take-texts c.args.count c.args.lines.now
