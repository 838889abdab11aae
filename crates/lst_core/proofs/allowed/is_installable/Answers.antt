use Rattle.std.proofs.Common.{sym, ◌∙◌}
use Rattle.lst_core.proofs.allowed.is_installable.Goals as goal

pub returns-then-cell-hold : goal.returns-then-cell-hold
returns-then-cell-hold c = (λ t. (sym c.cell.ensures ∙ c.if-cell-hold.true, c.are_posted.ensures.0 t), λ put. c.are_posted.ensures.1 put.1)
