use Rattle.std.proofs.Common.{refl, sym, true≢false, ◌∙◌}
use Rattle.lst_layout.specs.Words.{shown}
use Rattle.lst_core.proofs.ValueRuns.{settled_undue, settled_due}
use Rattle.lst_core.proofs.postings.is_settled.Goals as goal

pub returns-then-not-is_due : goal.returns-then-not-is_due
returns-then-not-is_due c = (λ _. settled_undue c.args.layout.now.limits (shown c.args.layout.now.limits c.args.words.now) c.args.rec c.args.tail c.args.column c.cell-word.result c.cell-word.ensures (λ due. true≢false (sym (c.is_due.ensures.1 due) ∙ c.if-not-is_due.true)), λ _. refl)

pub returns : goal.returns
returns c = settled_due c.args.layout.now.limits (shown c.args.layout.now.limits c.args.words.now) c.args.rec c.args.tail c.args.column c.cell-word.result c.cell-value.result c.cell-word.ensures c.cell-value.ensures (c.is_due.ensures.0 c.if-not-is_due.false) c.is_posted.result c.is_posted.ensures
