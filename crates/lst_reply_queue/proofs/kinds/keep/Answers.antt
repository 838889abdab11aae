use Rattle.std.proofs.lemmas.Grind.{common_steps}
use Rattle.std.proofs.Common.{Some, refl, sym, ap, ◌∷◌, [], arith}
use Rattle.lst_reply_queue.specs.declared.kinds.Kind.TheVariants.{Begun, Done, Absent, Committed, Ended, Aborted}
use Rattle.lst_reply_queue.proofs.Keeping.{keeps_told, keeps_bare, keeps_other, no_kind, when_failed}
use Rattle.lst_reply_queue.proofs.kinds.keep.Goals as goal

pub returns-in_err-push-in-Begun-clause-ok : goal.returns-in_err-push-in-Begun-clause-ok
returns-in_err-push-in-Begun-clause-ok c = no_kind _ _ _ c.from_residual.ensures.0

pub returns-in_err-push-in-Begun-clause-err : goal.returns-in_err-push-in-Begun-clause-err
returns-in_err-push-in-Begun-clause-err c = when_failed _ _ _ c.from_residual.ensures.0 (c.in_err-push-in-Begun.ensures.items, refl)

pub returns-in_ok-push-in-Begun-clause-ok : goal.returns-in_ok-push-in-Begun-clause-ok
returns-in_ok-push-in-Begun-clause-ok c = keeps_told Begun _ (c.in-Begun.time ∷ []) _ _ _ c.in_ok-push-in-Begun.ensures.items refl tt (ap Some (sym c.in-Begun.is))

pub returns-in_ok-push-in-Begun-clause-err : goal.returns-in_ok-push-in-Begun-clause-err
returns-in_ok-push-in-Begun-clause-err c = tt

pub returns-in_err-push-in-Committed-clause-ok : goal.returns-in_err-push-in-Committed-clause-ok
returns-in_err-push-in-Committed-clause-ok c = no_kind _ _ _ c.from_residual-in_err-push-in-Committed.ensures.0

pub returns-in_err-push-in-Committed-clause-err : goal.returns-in_err-push-in-Committed-clause-err
returns-in_err-push-in-Committed-clause-err c = when_failed _ _ _ c.from_residual-in_err-push-in-Committed.ensures.0 (c.in_err-push-in-Committed.ensures.items, refl)

pub returns-in_ok-push-in-Committed-clause-ok : goal.returns-in_ok-push-in-Committed-clause-ok
returns-in_ok-push-in-Committed-clause-ok c = keeps_told Committed _ (c.in-Committed.time ∷ []) _ _ _ c.in_ok-push-in-Committed.ensures.items refl tt (ap Some (sym c.in-Committed.is))

pub returns-in_ok-push-in-Committed-clause-err : goal.returns-in_ok-push-in-Committed-clause-err
returns-in_ok-push-in-Committed-clause-err c = tt

pub returns-in_err-push-in-Ended-clause-ok : goal.returns-in_err-push-in-Ended-clause-ok
returns-in_err-push-in-Ended-clause-ok c = no_kind _ _ _ c.from_residual-in_err-push-in-Ended.ensures.0

pub returns-in_err-push-in-Ended-clause-err : goal.returns-in_err-push-in-Ended-clause-err
returns-in_err-push-in-Ended-clause-err c = when_failed _ _ _ c.from_residual-in_err-push-in-Ended.ensures.0 (c.in_err-push-in-Ended.ensures.items, refl)

pub returns-in_ok-push-in-Ended-clause-ok : goal.returns-in_ok-push-in-Ended-clause-ok
returns-in_ok-push-in-Ended-clause-ok c = keeps_told Ended _ (c.in-Ended.time ∷ []) _ _ _ c.in_ok-push-in-Ended.ensures.items refl tt (ap Some (sym c.in-Ended.is))

pub returns-in_ok-push-in-Ended-clause-err : goal.returns-in_ok-push-in-Ended-clause-err
returns-in_ok-push-in-Ended-clause-err c = tt

pub returns-in-Done-clause-ok : goal.returns-in-Done-clause-ok
returns-in-Done-clause-ok c = keeps_bare Done _ _ _ refl tt (ap Some (sym c.in-Done.is))

pub returns-in-Done-clause-err : goal.returns-in-Done-clause-err
returns-in-Done-clause-err c = tt

pub returns-in-Absent-clause-ok : goal.returns-in-Absent-clause-ok
returns-in-Absent-clause-ok c = keeps_bare Absent _ _ _ refl tt (ap Some (sym c.in-Absent.is))

pub returns-in-Absent-clause-err : goal.returns-in-Absent-clause-err
returns-in-Absent-clause-err c = tt

pub returns-in-Aborted-clause-ok : goal.returns-in-Aborted-clause-ok
returns-in-Aborted-clause-ok c = keeps_bare Aborted _ _ _ refl tt (ap Some (sym c.in-Aborted.is))

pub returns-in-Aborted-clause-err : goal.returns-in-Aborted-clause-err
returns-in-Aborted-clause-err c = tt

pub returns-in_err-extend_from_slice-in-Row-clause-ok : goal.returns-in_err-extend_from_slice-in-Row-clause-ok
returns-in_err-extend_from_slice-in-Row-clause-ok c = no_kind _ _ _ c.from_residual-in_err-extend_from_slice-in-Row.ensures.0

pub returns-in_err-extend_from_slice-in-Row-clause-err : goal.returns-in_err-extend_from_slice-in-Row-clause-err
returns-in_err-extend_from_slice-in-Row-clause-err c = when_failed _ _ _ c.from_residual-in_err-extend_from_slice-in-Row.ensures.0 (c.in_err-extend_from_slice-in-Row.ensures.items, refl)

pub returns-in_ok-extend_from_slice-in-Row-clause-err : goal.returns-in_ok-extend_from_slice-in-Row-clause-err
returns-in_ok-extend_from_slice-in-Row-clause-err c = tt

pub overflow_cast-result : goal.overflow_cast-result
overflow_cast-result c = let few = c.len.ensures.few in omega arith

pub returns-in_err-push_back-in_default : goal.returns-in_err-push_back-in_default
returns-in_err-push_back-in_default c = record { ok = no_kind _ _ _ c.from_residual-in_err-push_back-in_default.ensures.0; err = when_failed _ _ _ c.from_residual-in_err-push_back-in_default.ensures.0 (refl, c.in_err-push_back-in_default.ensures.items) }

pub returns-in_ok-push_back-in_default : goal.returns-in_ok-push_back-in_default
returns-in_ok-push_back-in_default c = record { ok = keeps_other _ _ _ _ c.in_ok-push_back-in_default.ensures.items; err = tt }

pub returns-in_ok-extend_from_slice-in-Row-clause-ok : goal.returns-in_ok-extend_from_slice-in-Row-clause-ok
returns-in_ok-extend_from_slice-in-Row-clause-ok c = grind (arith, common_steps)
