use Rattle.std.proofs.Common.{◌≡◌, ℕ, ◌/◌, ◌%◌, ◌<◌, ◌≤◌, subst, arith}
use Rattle.lst_rule.proofs.Stating.{asked_same}
use Rattle.lst_rule.proofs.status.status_of.Goals as goal

pub returns-in-Empty-clause-asked : goal.returns-in-Empty-clause-asked
returns-in-Empty-clause-asked c = asked_same _ _

pub returns-in-At-clause-asked : goal.returns-in-At-clause-asked
returns-in-At-clause-asked c = asked_same _ _

pub transaction_status-requires-clause-place : goal.transaction_status-requires-clause-place
transaction_status-requires-clause-place c = let word = c.in-By.ensures.word in let few = c.in-By.ensures.range.0 in let odd : c.args.start % 2 ≡ 1 = omega (arith, word, few) in let named = c.requires.named odd in
    let session : c.args.start / 2 % 16 ≡ c.in-By.session = omega (arith, word, few) in let number : c.args.start / 2 / 16 ≡ c.in-By.number = omega (arith, word, few) in (
      subst (λ (j : ℕ). j < c.args.seat.now.view.limits.sessions) session named.0,
      subst (λ (n : ℕ). 0 < n) number named.1,
      subst (λ (n : ℕ). n ≤ c.args.seat.now.view.limits.txns) number named.2,
    )
