use Rattle.std.proofs.Common.{rules}
use Rattle.lst_pack.proofs.whole.unpack_dictionary.Goals as goal

pub loop-k-preserved : goal.loop-k-preserved
loop-k-preserved c = search rules
