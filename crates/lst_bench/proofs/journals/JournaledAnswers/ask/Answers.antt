use Rattle.std.proofs.Common.{◌<◌, sym, ◌∙◌, subst}
use Rattle.lst_disk.specs.Memory.{disk_content, disk_images}
use Rattle.lst_layout.specs.declared.limits.Limits.{Limits}
use Rattle.lst_model.specs.Lines.{CallFits}
use Rattle.lst_model.specs.declared.lines.Line.TheVariants.{Call as CallLine}
use Rattle.lst_redo.proofs.Staying.{stays_open}
use Rattle.lst_bench.proofs.journals.JournaledAnswers.ask.Goals as goal

pub line-requires-clause-fits : goal.line-requires-clause-fits
line-requires-clause-fits c =
    (subst (λ (l : Limits). 0 < l.sessions) c.limits.ensures (c.fits.ensures.session c.if-not-fits.false), subst (λ (l : Limits). CallFits l.columns c.args.call) c.limits.ensures (c.fits.ensures.call c.if-not-fits.false))

pub line-requires-clause-journal : goal.line-requires-clause-journal
line-requires-clause-journal c = c.requires (sym c.failed.ensures ∙ c.if-failed.false)

pub returns-in-Ok : goal.returns-in-Ok
returns-in-Ok c = λ sound.
    stays_open disk_content disk_images c.args.self.now.redo c.line.new.self (CallLine 0 c.args.call) c.line.result (c.requires (sym c.failed.ensures ∙ c.if-failed.false)) c.line.ensures.journal c.line.ensures.memory_journal c.line.ensures.failed
    sound

pub returns-in-Err : goal.returns-in-Err
returns-in-Err c = λ sound.
    stays_open disk_content disk_images c.args.self.now.redo c.line.new.self (CallLine 0 c.args.call) c.line.result (c.requires (sym c.failed.ensures ∙ c.if-failed.false)) c.line.ensures.journal c.line.ensures.memory_journal c.line.ensures.failed
    sound
