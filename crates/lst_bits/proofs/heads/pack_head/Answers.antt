use Rattle.std.proofs.Common.{rules}
use Rattle.lst_bits.proofs.heads.pack_head.Goals as goal

pub returns-clause-word : goal.returns-clause-word
returns-clause-word c = search rules
