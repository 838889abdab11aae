use Rattle.std.proofs.Common.{◌∙◌, ap, Err}
use Rattle.lst_serial.specs.declared.kinds.SerialCommit.{SerialCommit}
use Rattle.lst_serial.proofs.Ending.{concludes}
use Rattle.lst_serial.proofs.locks.try_to_end.Goals as goal

pub returns-in-Ok-clause-end : goal.returns-in-Ok-clause-end
returns-in-Ok-clause-end c = concludes c.args.session.now.seat.view c.try_end.new.session.seat.view c.args.session.now.number c.args.keys.now c.args.all c.in-Ok.outcome c.try_end.result c.in-Ok.is c.try_end.ensures.committed c.try_end.ensures.ended

pub returns-in-Err-Stale-clause-end : goal.returns-in-Err-Stale-clause-end
returns-in-Err-Stale-clause-end c = c.try_end.ensures.stale c.in-Err-Stale.time (c.in-Err-Stale.is ∙ ap (λ (r : SerialCommit). Err r) c.in-Err-Stale.field-0-is)
