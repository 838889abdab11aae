use Rattle.std.proofs.Common.{sym, subst, refl}
use Rattle.lst_layout.specs.declared.limits.Limits.{Limits}
use Rattle.lst_model.specs.Lines.{CallFits}
use Rattle.lst_work.proofs.Running.{ran_call}
use Rattle.lst_work.proofs.workers.run_call.Goals as goal

pub level_line-requires-clause-fits : goal.level_line-requires-clause-fits
level_line-requires-clause-fits g c = subst (λ (l : Limits). CallFits l.columns c.args.call.now) (sym c.requires.ready.seat_of.limits) c.requires.can.fits.1

pub returns-clause-ran : goal.returns-clause-ran
returns-clause-ran g c = ran_call c.args.worker.now.session.number c.args.call.now c.in_ok-reply.reply c.args.worker.now _ refl c.level_line.ensures.number c.in_ok-push.ensures.ok refl
    c.in_ok-reply.ensures.after refl c.in_ok-reply.ensures.ends
