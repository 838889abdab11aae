use Rattle.std.proofs.Common.{List, IsTrue, IfOk, subst, ◌∙◌, ◌↔◌}
use Rattle.lst_model.specs.declared.lines.Line.{Line}
use Rattle.lst_legal.specs.Judged.{IsLegalAt}
use Rattle.lst_command.proofs.shell.is_legal.Goals as goal

pub returns : goal.returns
returns c = subst (λ (script : List Line). IfOk c.legal_at.result (λ b. IsTrue b ↔ IsLegalAt c.args.level c.args.limits.now script c.args.claim.now.report)) (c.as_slice.ensures.value ∙ c.in_ok-lines.ensures) c.legal_at.ensures
