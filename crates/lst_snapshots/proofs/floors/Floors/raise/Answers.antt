use Rattle.std.proofs.Common.{rules}
use Rattle.lst_snapshots.proofs.floors.Floors.raise.Goals as goal

pub returns : goal.returns
returns c = search rules
