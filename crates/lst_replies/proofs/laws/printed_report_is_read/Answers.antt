use Rattle.lst_replies.proofs.Printed.{printed}
use Rattle.lst_replies.proofs.laws.printed_report_is_read.Goals as goal

pub returns : goal.returns
returns c = printed
