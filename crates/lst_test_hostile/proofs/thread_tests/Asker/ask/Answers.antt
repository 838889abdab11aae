use Rattle.std.proofs.Common.{ℕ, sym, subst, ap, ◌∙◌}
use Rattle.lst_layout.specs.declared.limits.Limits.{Limits}
use Rattle.lst_model.specs.Lines.{CallFits}
use Rattle.lst_test_hostile.proofs.thread_tests.Asker.ask.Goals as goal

pub session_line-requires-clause-fits : goal.session_line-requires-clause-fits
session_line-requires-clause-fits g c = subst (λ (n : ℕ). CallFits n c.draw_call-call.result) (sym (ap (λ (l : Limits). l.columns) c.requires.ready.seat_of.limits ∙ c.requires.columns)) c.draw_call-call.ensures
