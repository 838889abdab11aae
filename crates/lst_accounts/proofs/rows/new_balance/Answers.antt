use Rattle.std.proofs.Common.{rules, ◌≡◌, sym, subst}
use Rattle.lst_model.specs.Lines.{IsPatch}
use Rattle.lst_accounts.specs.Books.{new_balance}
use Rattle.lst_accounts.proofs.Celling.{sets_balance}
use Rattle.lst_accounts.proofs.rows.new_balance.Goals as goal

pub returns-clause-patch : goal.returns-clause-patch
returns-clause-patch c = let is : c.of_numbers.result ≡ new_balance c.args.balance = search rules in subst (IsPatch 1) (sym is) (sets_balance c.args.balance)
