use Rattle.std.proofs.Common.{sym, ◌∙◌, true≢false}
use Rattle.lst_serial.proofs.serial.Serial.try_commit.Goals as goal

pub returns-clause-idle : goal.returns-clause-idle
returns-clause-idle c = (λ is. absurd (c.try_end.ensures.opened is), λ e. absurd (true≢false (sym (c.is_idle.ensures.1 e) ∙ c.if-is_idle.false)))

pub returns-clause-still : goal.returns-clause-still
returns-clause-still c is = absurd (c.try_end.ensures.opened is)
