use Rattle.std.proofs.Common.{◌+◌, ◌*◌}
use Rattle.lst_pack.proofs.Counting.{Notes}
use Rattle.lst_pack.proofs.survey.note.Given as goal

-- the first value is known before it is looked at
abbrev pub invariant-loop-turn : goal.invariant-loop-turn
invariant-loop-turn l = Notes l.values (l.turn * 16) l.known l.recent l.count

abbrev pub invariant-loop-k : goal.invariant-loop-k
invariant-loop-k l = Notes l.values (l.turn * 16 + l.k) l.known l.recent l.count
