use Rattle.lst_serial.proofs.Sets.{empty_has}
use Rattle.lst_serial.proofs.keys.KeySet.new.Goals as goal

pub returns : goal.returns
returns c = empty_has record { few = c.new.result; keys = c.new-2.result } c.new.ensures c.new-2.ensures.empty
