use Rattle.std.proofs.Common.{◌<◌, sym, subst, ap, ◌∙◌, arith}
use Rattle.lst_layout.specs.declared.layout.Layout.{Layout}
use Rattle.lst_layout.specs.declared.limits.Limits.{Limits}
use Rattle.lst_session.proofs.Readying.{ready_at_opening}
use Rattle.lst_test_calls.proofs.steps.open_one.Goals as goal

pub invariant_of-result : goal.invariant_of-result
invariant_of-result c = let l = c.in-Ok.ensures.layout in record {
  own = (
    ready_at_opening c.in_ok-store.store record { seat = c.in_ok-store.seat; number = 1 } c.in-Ok.layout.limits c.in_ok-store.ensures.seat c.in_ok-store.ensures.crew (subst (λ (x : Limits). 1 < x.sessions) (sym l) (omega arith)),
    ap (λ (y : Layout). y.limits.columns) c.in_ok-store.ensures.store ∙ ap (λ (x : Limits). x.columns) l,
  );
}
