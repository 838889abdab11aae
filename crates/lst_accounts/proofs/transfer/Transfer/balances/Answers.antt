use Rattle.std.proofs.Common.{rules}
use Rattle.lst_accounts.proofs.transfer.Transfer.balances.Goals as goal

pub returns : goal.returns
returns c = search rules
