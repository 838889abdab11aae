use Rattle.std.proofs.Common.{rules}
use Rattle.lst_pack.proofs.single.run_value.Goals as goal

pub loop-low-preserved : goal.loop-low-preserved
loop-low-preserved g c = search rules
