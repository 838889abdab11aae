use Rattle.std.proofs.Common.{ap, ◌∙◌}
use Rattle.lst_session.specs.declared.session.Session.{Session}
use Rattle.lst_serial.proofs.serial.Serial.as_of.Goals as goal

pub returns-in-Ok-clause-still : goal.returns-in-Ok-clause-still
returns-in-Ok-clause-still c e = ap (λ (session : Session). session.seat.view) c.forget.ensures.session ∙ c.in-Ok.ensures.still e
