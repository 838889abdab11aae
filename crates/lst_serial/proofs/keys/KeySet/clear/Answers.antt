use Rattle.lst_serial.proofs.Sets.{empty_has}
use Rattle.lst_serial.proofs.keys.KeySet.clear.Goals as goal

pub returns : goal.returns
returns c = empty_has record { few = c.new-self.result; keys = c.clear.new.self } c.new-self.ensures c.clear.ensures.empty
