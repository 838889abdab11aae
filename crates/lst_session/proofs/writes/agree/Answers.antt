use Rattle.std.proofs.Common.{sym, ◌∙◌}
use Rattle.lst_session.proofs.Agreeing.{misfits, fits, same_bool, other_bool}
use Rattle.lst_session.proofs.writes.agree.Goals as goal

pub returns-then-is_there-is_put-clause-agrees : goal.returns-then-is_there-is_put-clause-agrees
returns-then-is_there-is_put-clause-agrees c = misfits _ _ _ _ _ _ _ c.has_row-is_there.ensures.watched c.has_row-is_there.ensures.row.1 c.requires.placed _ c.misfit.ensures (sym c.has_row-is_there.ensures.row.2 ∙ (same_bool _ _ c.if-is_there-is_put.true ∙ c.is_put.ensures))

pub returns-clause-agrees : goal.returns-clause-agrees
returns-clause-agrees c = fits _ _ _ _ _ _ _ c.has_row-is_there.ensures.watched c.has_row-is_there.ensures.row.1 c.requires.placed (λ e. other_bool _ _ c.if-is_there-is_put.false (c.has_row-is_there.ensures.row.2 ∙ (e ∙ sym c.is_put.ensures)))
