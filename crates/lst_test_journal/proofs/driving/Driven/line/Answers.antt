use Rattle.std.proofs.Common.{sym, ◌∙◌, subst}
use Rattle.lst_layout.specs.declared.limits.Limits.{Limits}
use Rattle.lst_model.specs.Lines.{LineFits}
use Rattle.lst_redo.proofs.Staying.{stays_open}
use Rattle.lst_test_journal.proofs.driving.Driven.line.Goals as goal

pub line-requires-clause-fits : goal.line-requires-clause-fits
line-requires-clause-fits g c = subst (λ (l : Limits). LineFits l.sessions l.ranges l.columns c.in_ok-line.line) c.limits.ensures c.in_ok-line.ensures

pub line-requires-clause-journal : goal.line-requires-clause-journal
line-requires-clause-journal g c = c.requires (sym c.failed.ensures ∙ c.if-failed.false)

pub returns : goal.returns
returns g c = λ sound.
    stays_open g.D.Disk.content g.D.Disk.images c.args.self.now.redo c.line.new.self c.in_ok-line.line c.line.result (c.requires (sym c.failed.ensures ∙ c.if-failed.false)) c.line.ensures.journal c.line.ensures.memory_journal
    c.line.ensures.failed sound
