use Rattle.lst_report.proofs.Behind.{legal_claimed, one_claim}
use Rattle.lst_report.proofs.laws.legal_report_is_claimed.Goals as goal

pub returns-clause-claimed : goal.returns-clause-claimed
returns-clause-claimed c = legal_claimed

pub returns-clause-alone : goal.returns-clause-alone
returns-clause-alone c = one_claim
