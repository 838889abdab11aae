use Rattle.lst_accounts.proofs.Balancing.{each_sum_is_paid_in}
use Rattle.lst_accounts.proofs.laws.every_sum_is_what_was_paid_in.Goals as goal

pub returns : goal.returns
returns c = each_sum_is_paid_in
