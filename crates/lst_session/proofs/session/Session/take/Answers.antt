use Rattle.std.proofs.Common.{refl, sym, ◌∙◌}
use Rattle.lst_txn.proofs.Refusing.{neither, ok_err}
use Rattle.lst_session.proofs.session.Session.take.Goals as goal

pub returns-in-Ok : goal.returns-in-Ok
returns-in-Ok c = let ok = c.in-Ok.ensures.ok in (
  (refl, (λ w. refl), tt),
  record {
    refused = tt;
    same_reference = refl;
    turn = record { held = ok.1; own = ok.0 ∙ sym c.take_turn.ensures.number };
    takes = (c.take_turn.ensures.number, ok.2);
    history = c.in-Ok.ensures.history;
    idle = neither _ _ (ok_err _ _ _ _) (λ f. ok_err _ _ _ _ (c.in-Ok.ensures.idle.1 f));
  },
)
