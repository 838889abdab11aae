use Rattle.std.proofs.Common.{◌≡◌, [], ◌∷◌, rules}
use Rattle.std.specs.Prelude.{Ok, Err}
use Rattle.std.specs.Result.{result_or}
use Rattle.lst_accounts.specs.Books.{IsPaid}
use Rattle.lst_embedded.specs.declared.transactions.Stop.TheVariants.{Anew}
use Rattle.lst_embedded.specs.Doing.{HasAdded, commit_of}
use Rattle.lst_embedded.proofs.Going.{set_by, added_on, committed_if, busy_if, on_or, err_or, so_err, moved_by, moved_writes, transferred_by}
use Rattle.lst_embedded.proofs.transactions.make.Goals as goal

pub returns-in_err-or-clause-err : goal.returns-in_err-or-clause-err
returns-in_err-or-clause-err c =
    let r = c.requires in let t = c.args.transfer.now in let a = c.args.session.now in let b = c.balance.new.session in let m = c.balance-2.new.session in let d = c.update.new.self in let e = c.update-2.new.self in let f = c.try_commit.new.self in
    let first = c.in_ok-payer.ensures in let second = c.in_ok-payee.ensures in let payer = c.in_ok-payer.payer in let payee = c.in_ok-payee.payee in let left = c.in_ok-payer-2.payer in let has = c.in_ok-payer-2.payee in
    let paid : IsPaid t payer payee left has = search rules in
    let takes = set_by m d t.from left c.new_balance.result c.in_ok-update.ensures.number c.new_balance.ensures.is c.in_ok-update.ensures.ok in
    let gives = set_by d e t.to has c.new_balance-2.result c.in_ok-update-2.ensures.number c.new_balance-2.ensures.is c.in_ok-update-2.ensures.ok in
    let moved = moved_by a b m d e t payer payee left has r.early r.none r.differ first.goes first.seen second.goes second.seen paid takes gives in
    let refused : Err c.in_err-or.field-0.0 ≡ result_or c.try_commit.result (Err Anew) = search rules in
    so_err (HasAdded a f [])
    (added_on a e f [] [] moved.goes.added (err_or (HasAdded e f []) c.try_commit.result Anew c.in_err-or.field-0.0 refused (busy_if e f c.try_commit.ensures.number c.try_commit.result c.try_commit.ensures.busy c.try_commit.ensures.still)))
    c.from_residual-in_err-or.result

pub returns-clause-ok : goal.returns-clause-ok
returns-clause-ok c =
    let r = c.requires in let t = c.args.transfer.now in let a = c.args.session.now in let b = c.balance.new.session in let m = c.balance-2.new.session in let d = c.update.new.self in let e = c.update-2.new.self in let f = c.try_commit.new.self in
    let first = c.in_ok-payer.ensures in let second = c.in_ok-payee.ensures in let payer = c.in_ok-payer.payer in let payee = c.in_ok-payee.payee in let left = c.in_ok-payer-2.payer in let has = c.in_ok-payer-2.payee in
    let paid : IsPaid t payer payee left has = search rules in
    let takes = set_by m d t.from left c.new_balance.result c.in_ok-update.ensures.number c.new_balance.ensures.is c.in_ok-update.ensures.ok in
    let gives = set_by d e t.to has c.new_balance-2.result c.in_ok-update-2.ensures.number c.new_balance-2.ensures.is c.in_ok-update-2.ensures.ok in
    let moved = moved_by a b m d e t payer payee left has r.early r.none r.differ first.goes first.seen second.goes second.seen paid takes gives in
    let committed : Ok c.in_ok-or.field-0 ≡ result_or c.try_commit.result (Err Anew) = search rules in
    let added = on_or (HasAdded e f (commit_of e ∷ [])) c.try_commit.result Anew c.in_ok-or.field-0 committed
    (committed_if e f c.try_commit.ensures.number c.try_commit.result (moved_writes a e t moved) c.try_commit.ensures.committed c.try_commit.ensures.ended) in
    transferred_by a e f t r.some r.early moved added
