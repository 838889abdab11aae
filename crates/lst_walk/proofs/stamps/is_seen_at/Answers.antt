use Rattle.std.proofs.Common.{rules}
use Rattle.lst_walk.proofs.stamps.is_seen_at.Goals as goal

pub returns-in-Own : goal.returns-in-Own
returns-in-Own c = search rules

pub returns-in-Empty : goal.returns-in-Empty
returns-in-Empty c = search rules
