use Rattle.std.proofs.Common.{rules}
use Rattle.lst_layout.proofs.laws.frames_are_in_parts.Goals as goal

pub returns : goal.returns
returns c = search rules
