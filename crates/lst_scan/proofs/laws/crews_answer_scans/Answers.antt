use Rattle.lst_scan.proofs.Replying.{crews_answer_scans}
use Rattle.lst_scan.proofs.laws.crews_answer_scans.Goals as goal

pub returns : goal.returns
returns c = crews_answer_scans
