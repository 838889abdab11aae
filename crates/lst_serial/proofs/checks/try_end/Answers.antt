use Rattle.std.proofs.Common.{◌≡◌, ap, sym, ◌∙◌, Ok, length, lt-ltb, true≢false}
use Rattle.lst_rule.specs.Rule.{knows}
use Rattle.lst_session.specs.declared.kinds.Outcome.{Outcome}
use Rattle.lst_serial.proofs.checks.try_end.Goals as goal

pub returns-clause-committed : goal.returns-clause-committed
returns-clause-committed c time is =
    let e : c.in-Ok.outcome ≡ Outcome.Committed time = cc in
    let wrote = (c.in-Ok.ensures.committed time (ap (λ (o : Outcome). Ok o) e)).wrote in
    let none = sym c.has_writes.ensures ∙ c.if-has_writes.false in
    absurd (true≢false (sym (lt-ltb 0 (length (knows c.args.session.now.seat.view c.args.session.now.number).own) wrote) ∙ none))
