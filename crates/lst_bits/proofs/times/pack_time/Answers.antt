use Rattle.std.proofs.Common.{rules}
use Rattle.lst_bits.proofs.times.pack_time.Goals as goal

pub returns : goal.returns
returns c = search rules
