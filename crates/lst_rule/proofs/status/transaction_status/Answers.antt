use Rattle.std.proofs.Common.{◌≡◌, ℕ, ◌-◌, arith, refl, inl, sym, subst}
use Rattle.lst_rule.specs.Statuses.{SaysCommitted}
use Rattle.lst_rule.proofs.Stating.{says, says_now, asked_state, asked_on}
use Rattle.lst_rule.proofs.Asking.{answers}
use Rattle.lst_rule.proofs.status.transaction_status.Goals as goal

pub returns-in-Active-clause-status : goal.returns-in-Active-clause-status
returns-in-Active-clause-status c = answers _ _ _ _ _ c.requires.host c.requires.place _ (refl, refl, inl (says_now _ _ _ _ _ _ _ c.load_state.ensures.looked (sym c.in-Active.ensures.word)))

pub returns-in-Active-clause-asked : goal.returns-in-Active-clause-asked
returns-in-Active-clause-asked c = asked_state _ _ _ _ _ _ c.load_state.ensures.looked

pub returns-in-Closed-clause-status : goal.returns-in-Closed-clause-status
returns-in-Closed-clause-status c = answers _ _ _ _ _ c.requires.host c.requires.place _ (says_now _ _ _ _ _ _ _ c.load_state.ensures.looked (sym c.in-Closed.ensures.word))

pub returns-in-Closed-clause-asked : goal.returns-in-Closed-clause-asked
returns-in-Closed-clause-asked c = asked_state _ _ _ _ _ _ c.load_state.ensures.looked

pub returns-in-Committed-clause-status : goal.returns-in-Committed-clause-status
returns-in-Committed-clause-status c = let word = c.in-Committed.ensures.word in let some = c.in-Committed.ensures.range.0 in answers _ _ _ _ _ c.requires.host c.requires.place _ (says _ _ _ _ _ _ _ c.load_state.ensures.looked (omega (arith, word, some)) _
    (subst (λ (t : ℕ). SaysCommitted c.load_state.new.seat.view c.commit_status.new.seat.view c.args.s c.args.session c.args.number t c.commit_status.result) (let e : c.in-Committed.time ≡ c.load_state.result - 1 = omega (arith, word) in e) c.commit_status.ensures.says))

pub returns-in-Committed-clause-asked : goal.returns-in-Committed-clause-asked
returns-in-Committed-clause-asked c = asked_on _ _ _ _ (asked_state _ _ _ _ _ _ c.load_state.ensures.looked) c.commit_status.ensures.asked
