use Rattle.lst_session.proofs.Sounding.{seen_is_sound}
use Rattle.lst_session.proofs.laws.seen_is_sound.Goals as goal

pub returns : goal.returns
returns c = seen_is_sound
