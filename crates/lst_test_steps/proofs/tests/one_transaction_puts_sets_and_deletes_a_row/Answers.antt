use Rattle.std.proofs.Common.{ℕ, sym, subst, ap, ◌∙◌}
use Rattle.lst_layout.specs.declared.limits.Limits.{Limits}
use Rattle.lst_model.specs.Lines.{IsPatch}
use Rattle.lst_test_steps.proofs.tests.one_transaction_puts_sets_and_deletes_a_row.Goals as goal

pub put_set_and_delete-time-requires-clause-patch : goal.put_set_and_delete-time-requires-clause-patch
put_set_and_delete-time-requires-clause-patch g c =
    let table = c.in_ok-store.ensures in
    subst (λ (n : ℕ). IsPatch n c.second_alone.result) (sym (ap (λ (l : Limits). l.columns) table.crew.seat_of.limits ∙ table.crew.columns)) c.second_alone.ensures
