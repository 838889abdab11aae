use Rattle.std.proofs.Common.{rules}
use Rattle.lst_legal.proofs.writes.is_key_answered.Goals as goal

pub returns-then-begin-time : goal.returns-then-begin-time
returns-then-begin-time c = search rules
