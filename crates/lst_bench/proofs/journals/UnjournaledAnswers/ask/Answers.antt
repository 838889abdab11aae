use Rattle.std.proofs.Common.{◌<◌, subst}
use Rattle.lst_layout.specs.declared.limits.Limits.{Limits}
use Rattle.lst_model.specs.Lines.{CallFits}
use Rattle.lst_bench.proofs.journals.UnjournaledAnswers.ask.Goals as goal

pub crew_line-requires-clause-fits : goal.crew_line-requires-clause-fits
crew_line-requires-clause-fits c =
    (subst (λ (l : Limits). 0 < l.sessions) c.limits.ensures (c.fits.ensures.session c.if-not-fits.false), subst (λ (l : Limits). CallFits l.columns c.args.call) c.limits.ensures (c.fits.ensures.call c.if-not-fits.false))
