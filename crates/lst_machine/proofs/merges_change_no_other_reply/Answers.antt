use Rattle.lst_machine.proofs.Apart.{merges_apart}
use Rattle.lst_machine.proofs.merges_change_no_other_reply.Goals as goal

pub returns : goal.returns
returns c = merges_apart
