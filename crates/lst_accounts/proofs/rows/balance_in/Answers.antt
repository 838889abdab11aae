use Rattle.std.proofs.Common.{arith}
use Rattle.lst_accounts.proofs.Celling.{by_first}
use Rattle.lst_accounts.proofs.rows.balance_in.Goals as goal

pub returns-clause-some : goal.returns-clause-some
returns-clause-some c = by_first c.args.row.now c.get.result (omega (arith, c.if-len-ne1.false, c.len.ensures.len)) c.get.ensures
